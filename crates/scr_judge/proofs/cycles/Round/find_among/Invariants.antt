use Rattle.std.proofs.Common.{List, Contains}
use Rattle.scr_tree.specs.declared.written.WrittenPart.{WrittenPart as Part}
use Rattle.scr_judge.specs.inner.Cycles.{IsRound}
use Rattle.scr_judge.specs.inner.Round.{IsGuarded}
use Rattle.scr_judge.proofs.Owned.{Rest}
use Rattle.scr_judge.proofs.cycles.Round.find_among.Given as goal

abbrev pub invariant-loop-part : goal.invariant-loop-part
invariant-loop-part l = (ps : List Part) → IsRound ps l.self → ((p : Part) → Contains l.parts p → Contains ps p) →
    Rest (IsGuarded ps) l.parts l.part-index
