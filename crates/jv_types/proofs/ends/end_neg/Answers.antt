use Rattle.std.proofs.Common.{arith}
use Rattle.jv_types.proofs.Checking.{negs}
use Rattle.jv_tree.specs.View.{expr_of}
use Rattle.jv_types.proofs.Checking.{neg_wrong}
use Rattle.jv_types.proofs.ends.end_neg.Goals as goal

pub returns-in-Some : goal.returns-in-Some
returns-in-Some c = λ s h. neg_wrong s c.args.place (expr_of c.args.of.now) c.args.inner h c.in-Some.at c.in-Some.ensures

pub returns-in-None : goal.returns-in-None
returns-in-None c = grind (arith, negs)
