use Rattle.jv_tree.specs.View.{expr_of}
use Rattle.jv_types.proofs.Checking.{binary_wrong, binary_fine}
use Rattle.jv_types.proofs.ends.end_binary.Goals as goal

pub returns-in-Some : goal.returns-in-Some
returns-in-Some c = λ s h k. binary_wrong s c.args.place c.args.op (expr_of c.args.left.now) (expr_of c.args.right.now) c.args.one
    c.args.other h k c.in-Some.at c.in-Some.ensures

pub returns-in-None : goal.returns-in-None
returns-in-None c = λ s h k.
    binary_fine s c.args.place c.args.op (expr_of c.args.left.now) (expr_of c.args.right.now) c.args.one c.args.other h k c.in-None.ensures
    c.operator_type.result c.either.result c.operator_type.ensures c.either.ensures
