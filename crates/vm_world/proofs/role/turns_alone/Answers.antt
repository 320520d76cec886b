use Rattle.std.proofs.Common.{◌+◌, ap}
use Rattle.vm_world.proofs.role.turns_alone.Goals as goal

pub returns-clause-turns : goal.returns-clause-turns
returns-clause-turns c = record {
  state = rw c.in-Runs.is c.steps_alone-taken.ensures.steps;
  count = ap (λ k. c.args.role.now.count + k) c.from.ensures;
}
