use Rattle.std.proofs.Common.{◌∙◌}
use Rattle.use_rules.specs.State.{GoesOn}
use Rattle.use_flow.proofs.jumps.Jumps.set_aside.Goals as goal

pub returns-clause-going_on : goal.returns-clause-going_on
returns-clause-going_on c = c.take-going_on.ensures.was ∙ c.take-behind.ensures.left (GoesOn c.args.number)
