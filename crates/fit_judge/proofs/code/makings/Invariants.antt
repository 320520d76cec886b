use Rattle.std.proofs.Common.{◌≡◌, ◌≤◌, length, drop}
use Rattle.std.specs.HashMap.{get_by_text}
use Rattle.mg_text.specs.Call.{Name}
use Rattle.fit_judge.specs.inner.Making.{made_by}
use Rattle.fit_judge.proofs.code.makings.Given as goal

abbrev pub invariant-loop-i : goal.invariant-loop-i
invariant-loop-i l = record {
  within : l.i ≤ length l.mains;
  made : (q : Name) → get_by_text l.makes q ≡ made_by l.core (drop l.i l.mains) q;
}

abbrev pub decreases-loop-i : goal.decreases-loop-i
decreases-loop-i l = l.i
