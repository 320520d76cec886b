use Rattle.ts_parse.proofs.Whole.{one_file}
use Rattle.ts_parse.proofs.one_file.Goals as goal

pub returns : goal.returns
returns c = one_file
