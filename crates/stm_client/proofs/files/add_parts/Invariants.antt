use Rattle.std.proofs.Common.{◌≡◌, ◌++◌, drop, map}
use Rattle.scr_tree.specs.Tree.{other}
use Rattle.scr_tree.specs.View.{part_of}
use Rattle.jv_tree.specs.View.{method_of}
use Rattle.stm_client.specs.Client.{part_methods}
use Rattle.stm_client.specs.View.{making}
use Rattle.stm_client.proofs.files.add_parts.Given as goal

abbrev pub invariant-loop-part : goal.invariant-loop-part
invariant-loop-part l =
    map method_of l.fn.methods.items ++ part_methods (making l.about) l.fn.at (map other (map part_of l.parts))
    ≡ map method_of l.methods.items ++ part_methods (making l.about) l.at (map other (map part_of (drop l.part-index l.parts)))
