-- By `grind` at once, which is shorter than a search.
use Rattle.std.proofs.Common.{arith}
use Rattle.std.proofs.lemmas.Grind.{common_steps}
use Rattle.jv_resolve.proofs.calls.protocol_call.Goals as goal

pub returns-in_default : goal.returns-in_default
returns-in_default c = grind (arith, common_steps)

pub returns-in_default-method_named : goal.returns-in_default-method_named
returns-in_default-method_named c = grind (arith, common_steps)

pub returns-then-callee : goal.returns-then-callee
returns-then-callee c = grind (arith, common_steps)
