use Rattle.mg_runs.proofs.Sound.{typable_law}
use Rattle.mg_runs.proofs.laws.loaded_classes_are_typable.Goals as goal

pub returns : goal.returns
returns c =
    typable_law c.spelled_is_shaped.ensures c.core_is_kept.ensures c.written_cores_are_held.ensures c.files_link.ensures.cores
    c.code_is_typable.ensures.typable
