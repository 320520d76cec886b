use Rattle.std.proofs.Common.{map}
use Rattle.scr_tree.specs.Local.{tree_of as local_of}
use Rattle.scr_global_tree.specs.Global.{tree_of}
use Rattle.mg_projected.proofs.Rest.{Rest}
use Rattle.mg_projected.proofs.locals.locals_of.Given as goal

abbrev pub invariant-loop-role : goal.invariant-loop-role
invariant-loop-role l = Rest (tree_of l.global) (tree_of l.global).roles l.role-index (map local_of l.locals.items)
