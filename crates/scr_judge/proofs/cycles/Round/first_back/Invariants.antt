use Rattle.std.proofs.Common.{◌≡◌, List, ℕ, Some, position}
use Rattle.std.specs.Borrow.{Bor}
use Rattle.std.specs.Str.{bytes_eq}
use Rattle.mg_text.specs.Call.{Name}
use Rattle.scr_tree.specs.Going.{Leads}
use Rattle.scr_tree.specs.declared.written.WrittenPart.{WrittenPart as Part}
use Rattle.scr_judge.specs.inner.Cycles.{IsRound}
use Rattle.scr_judge.specs.inner.Round.{FoundBad, titles}
use Rattle.scr_judge.proofs.Owned.{Rest}
use Rattle.scr_judge.proofs.cycles.Round.first_back.Given as goal

abbrev pub invariant-loop-i : goal.invariant-loop-i
invariant-loop-i l = (ps : List Part) (to : List ℕ) → IsRound ps l.self → position (bytes_eq to) l.self.names ≡ Some l.own →
    Rest (λ (b : Bor Name). FoundBad (λ n. Leads (titles ps) n to) b.now) l.names l.i
