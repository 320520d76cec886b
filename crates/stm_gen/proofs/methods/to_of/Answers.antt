use Rattle.std.proofs.Common.{sym, ap}
use Rattle.stm_gen.specs.Laid.{to_of}
use Rattle.stm_gen.proofs.methods.to_of.Goals as goal

pub returns-in-State : goal.returns-in-State
returns-in-State c = sym (ap to_of c.in-State.is)

pub returns-in-End : goal.returns-in-End
returns-in-End c = sym (ap to_of c.in-End.is)
