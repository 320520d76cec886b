use Rattle.std.proofs.Common.{◌≡◌, ◌++◌, drop, map}
use Rattle.scr_tree.specs.Actions.{all_actions}
use Rattle.scr_tree.specs.Written.{part_written, me_in, body_of}
use Rattle.scr_judge.specs.inner.View.{act}
use Rattle.scr_judge.proofs.actions.collect_parts.Given as goal

abbrev pub invariant-loop-part : goal.invariant-loop-part
invariant-loop-part l =
    map act l.fn.out.items ++ all_actions me_in body_of l.fn.number (map part_written l.parts)
    ≡ map act l.out.items ++ all_actions me_in body_of l.number (map part_written (drop l.part-index l.parts))
