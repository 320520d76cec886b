use Rattle.std.proofs.Common.{◌≡◌, ◌++◌, drop, map}
use Rattle.scr_tree.specs.View.{part_of}
use Rattle.stm_api.specs.inner.Does.{all_does, part_body}
use Rattle.stm_api.specs.inner.View.{doing_of}
use Rattle.stm_api.proofs.doings.collect_parts.Given as goal

abbrev pub invariant-loop-part : goal.invariant-loop-part
invariant-loop-part l =
    map doing_of l.fn.out.items ++ all_does l.me l.fn.number (map part_body (map part_of l.parts))
    ≡ map doing_of l.out.items ++ all_does l.me l.number (map part_body (map part_of (drop l.part-index l.parts)))
