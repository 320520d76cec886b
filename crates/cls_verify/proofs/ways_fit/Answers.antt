use Rattle.cls_verify.proofs.Fitting.{rows_are_met, ways_fit}
use Rattle.cls_verify.proofs.ways_fit.Goals as goal

pub returns-clause-met : goal.returns-clause-met
returns-clause-met c = rows_are_met

pub returns-clause-fit : goal.returns-clause-fit
returns-clause-fit c = ways_fit
