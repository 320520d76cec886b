use Rattle.std.proofs.Common.{◌≡◌, ◌-◌}
use Rattle.gen_expressions.specs.Drafting.{with_labels}
use Rattle.gen_expressions.specs.Held.{draft_in}
use Rattle.gen_expressions.proofs.coder.Coder.open_all.Given as goal

abbrev pub invariant-loop-opened : goal.invariant-loop-opened
invariant-loop-opened l = with_labels (l.count - l._opened) (draft_in l.self l.draft) ≡ with_labels l.count
    (draft_in l.self l.initial.draft)
