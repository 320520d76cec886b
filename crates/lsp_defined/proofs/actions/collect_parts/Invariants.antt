use Rattle.std.proofs.Common.{◌≡◌, ◌++◌, drop, map}
use Rattle.scr_tree.specs.Tree.{body_in, other}
use Rattle.scr_tree.specs.View.{part_of}
use Rattle.scr_tree.specs.Actions.{all_actions}
use Rattle.lsp_defined.specs.Called.{role_in}
use Rattle.lsp_defined.specs.inner.View.{act}
use Rattle.lsp_defined.proofs.actions.collect_parts.Given as goal

abbrev pub invariant-loop-part : goal.invariant-loop-part
invariant-loop-part l =
    map act l.fn.out.items ++ all_actions (role_in l.me) body_in l.fn.number (map other (map part_of l.parts))
    ≡ map act l.out.items ++ all_actions (role_in l.me) body_in l.number (map other (map part_of (drop l.part-index l.parts)))
