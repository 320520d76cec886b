use Rattle.ts_back.proofs.Answered as law
use Rattle.ts_back.proofs.back.printed_reads_back.Goals as goal

pub returns : goal.returns
returns c = law.printed_reads_back
