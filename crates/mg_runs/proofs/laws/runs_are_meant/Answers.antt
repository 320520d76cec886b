use Rattle.mg_runs.proofs.Sound.{runs_law}
use Rattle.mg_runs.proofs.laws.runs_are_meant.Goals as goal

pub returns : goal.returns
returns c =
    runs_law c.spelled_is_shaped.ensures c.core_is_kept.ensures c.written_cores_are_held.ensures c.files_link.ensures.cores
    c.mains_run_as_meant.ensures
    c.types_are_enough.ensures
