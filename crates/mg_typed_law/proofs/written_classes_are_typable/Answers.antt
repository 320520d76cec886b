use Rattle.mg_typed_law.proofs.Typable.{compiled_typable, runs_typable}
use Rattle.mg_typed_law.proofs.written_classes_are_typable.Goals as goal

pub returns-clause-compiled : goal.returns-clause-compiled
returns-clause-compiled c =
    compiled_typable c.spelled_is_shaped.ensures c.core_is_kept.ensures c.written_cores_are_held.ensures c.written_classes_link.ensures
    c.code_is_typable.ensures.typable

pub returns-clause-ran : goal.returns-clause-ran
returns-clause-ran c =
    runs_typable c.spelled_is_shaped.ensures c.core_is_kept.ensures c.written_cores_are_held.ensures c.written_classes_link.ensures
    c.code_is_typable.ensures.typable
