use Rattle.std.proofs.Common.{◌≡◌, ◌++◌, map, take}
use Rattle.jv_tree.specs.Source.{Variable}
use Rattle.jv_tree.specs.View.{expr_of}
use Rattle.stm_client.proofs.exprs.add_variables.Given as goal

abbrev pub invariant-loop-name : goal.invariant-loop-name
invariant-loop-name l = map expr_of l.args.items ≡ map expr_of l.initial.args.items ++ map (Variable l.place) (take l.name-index l.names)
