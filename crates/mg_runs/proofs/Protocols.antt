-- The typestates of the protocols of files.
use Rattle.stm_acts.proofs.Held.{generated_agrees}
use Rattle.mg_accepted_law.proofs.Read.{valid_read}
use Rattle.mg_runs.specs.Laws.{AllProtocolsAgree}

pub protocols_agree : AllProtocolsAgree
protocols_agree files source local among reads = generated_agrees local (valid_read source local reads)
