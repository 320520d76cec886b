use Rattle.std.proofs.Common.{arith}
use Rattle.vm_model.proofs.Descriptors.{cuts}
use Rattle.vm_model.proofs.types.read_answer.Goals as goal

pub returns-in-76-clause-next : goal.returns-in-76-clause-next
returns-in-76-clause-next c = grind (arith, cuts)
