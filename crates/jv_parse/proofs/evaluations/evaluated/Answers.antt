-- By `grind` at once, which is shorter than a search.
use Rattle.std.proofs.Common.{arith}
use Rattle.jv_parse.proofs.Evaluating.{kinds}
use Rattle.jv_parse.proofs.evaluations.evaluated.Goals as goal

pub method_call-requires : goal.method_call-requires
method_call-requires c = grind (arith, kinds)

pub returns-in-Call : goal.returns-in-Call
returns-in-Call c = grind (arith, kinds)

pub returns-in-MethodCall : goal.returns-in-MethodCall
returns-in-MethodCall c = grind (arith, kinds)

pub returns-in-New : goal.returns-in-New
returns-in-New c = grind (arith, kinds)
