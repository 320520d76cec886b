use Rattle.std.proofs.Common.{arith}
use Rattle.std.proofs.lemmas.Grind.{common_steps}
use Rattle.cls_rows.proofs.Doing.{same_held}
use Rattle.cls_rows.proofs.locals.is_held.Goals as goal

pub returns-in-Some-clause-same : goal.returns-in-Some-clause-same
returns-in-Some-clause-same c = same_held c.args.locals.now c.args.local c.in-Some.held.now c.args.kind c.in-Some.ensures.lookup.3

pub returns-in-None-clause-same : goal.returns-in-None-clause-same
returns-in-None-clause-same c = grind (arith, common_steps)
