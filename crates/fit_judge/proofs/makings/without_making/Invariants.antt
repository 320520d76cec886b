use Rattle.std.proofs.Common.{List, map, take}
use Rattle.std.specs.HashMap.{get_by_text}
use Rattle.vm_world_law.specs.declared.role.RoleMain.{RoleMain}
use Rattle.jv_core.specs.View.{method_of}
use Rattle.fit_judge.specs.inner.Making.{MakesBy}
use Rattle.fit_judge.proofs.Notes.{Notes}
use Rattle.fit_judge.proofs.makings.without_making.Given as goal

abbrev pub invariant-loop-method : goal.invariant-loop-method
invariant-loop-method l =
    (mains : List RoleMain) → MakesBy l.core mains l.makes →
    Notes l.core mains (map method_of (take l.method-index l.method-items)) (get_by_text l.places)
