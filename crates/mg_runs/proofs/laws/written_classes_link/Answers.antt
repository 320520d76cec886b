use Rattle.mg_runs.proofs.Sound.{classes_link_law}
use Rattle.mg_runs.proofs.laws.written_classes_link.Goals as goal

pub returns : goal.returns
returns c = classes_link_law c.spelled_is_shaped.ensures c.core_is_kept.ensures c.written_cores_are_held.ensures c.files_link.ensures.cores
