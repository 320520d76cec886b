use Rattle.std.proofs.Common.{ap, ◌∙◌}
use Rattle.std.specs.Option.{is_some}
use Rattle.jv_types.proofs.LocalSteps.{is_kept}
use Rattle.jv_types.proofs.simple.is_declared.Goals as goal

pub returns : goal.returns
returns c = c.is_some.ensures ∙ ap is_some c.find.ensures ∙ is_kept c.args.locals.now c.args.name.now
