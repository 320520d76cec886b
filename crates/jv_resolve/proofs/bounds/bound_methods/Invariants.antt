use Rattle.std.proofs.Common.{◌≡◌, ◌≤◌, ◌+◌, ◌-◌, ◌^◌, Some, drop, map, length}
use Rattle.std.specs.List.{AllByRecursion}
use Rattle.std.specs.Prelude.{slice_get}
use Rattle.jv_core.specs.Tree as Core
use Rattle.jv_core.specs.View.{class_of, method_of}
use Rattle.jv_resolve.proofs.bounds.bound_methods.Given as goal

abbrev pub invariant-loop-method : goal.invariant-loop-method
invariant-loop-method l = AllByRecursion (λ m. (k : Core.Class) → slice_get (map class_of l.classes) m.class ≡ Some k →
    length m.slots + length k.fields ≤ 2 ^ 32 - 1) (map method_of (drop l.method-index l.methods)) →
    AllByRecursion (λ m. (k : Core.Class) → slice_get (map class_of l.classes) m.class ≡ Some k → length m.slots + length k.fields ≤ 2 ^ 32
    - 1) (map method_of l.methods)
