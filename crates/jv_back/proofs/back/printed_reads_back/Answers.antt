use Rattle.jv_back.proofs.Law as law
use Rattle.jv_back.proofs.back.printed_reads_back.Goals as goal

pub returns : goal.returns
returns c = law.printed_reads_back
