use Rattle.std.proofs.Common.{◌≡◌, List, map, take}
use Rattle.mg_text.specs.Call.{Name}
use Rattle.vm_world_law.specs.declared.role.RoleMain.{RoleMain}
use Rattle.jv_core.specs.View.{method_of}
use Rattle.fit_judge.specs.inner.Making.{HoldsClasses, MakesBy}
use Rattle.fit_judge.proofs.Tables.{uses_to}
use Rattle.fit_judge.proofs.code.own_uses.Given as goal

abbrev pub invariant-loop-method : goal.invariant-loop-method
invariant-loop-method l =
    (roles : List Name) (mains : List RoleMain) → HoldsClasses roles l.classes → MakesBy l.core mains l.makes →
    l.uses.items ≡ uses_to roles l.core mains (map method_of (take l.method-index l.method-items))
