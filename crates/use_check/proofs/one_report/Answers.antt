use Rattle.use_check.proofs.Reporting.{one_report as the_law}
use Rattle.use_check.proofs.one_report.Goals as goal

pub returns : goal.returns
returns c = the_law
