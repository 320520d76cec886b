use Rattle.use_check.proofs.Worked.{reports}
use Rattle.use_check.proofs.examples_report.Goals as goal

pub returns : goal.returns
returns c = reports
