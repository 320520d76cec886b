use Rattle.std.proofs.Common.{◌≡◌, ◌≤◌, ◌+◌, ◌-◌, ◌^◌, Some, length, map, subst}
use Rattle.std.specs.Prelude.{slice_get}
use Rattle.std.specs.List.{AllByRecursion}
use Rattle.jv_core.specs.Tree as Core
use Rattle.jv_core.specs.View.{class_of, enum_of, method_of}
use Rattle.jv_resolve.proofs.program.bound_parts.Goals as goal

pub returns : goal.returns
returns c = λ p. record {
  enums = subst (λ xs. AllByRecursion (λ (e : Core.Enum). length e.constants ≤ 2 ^ 31) (map enum_of xs)) c.as_slice.ensures.items
      c.in_ok-bound_enums.ensures;
  methods =
      subst (λ xs. AllByRecursion (λ (m : Core.Method). (k : Core.Class) → slice_get (map class_of c.args.parts.now.classes.items) m.class ≡
      Some k → length m.slots + length k.fields ≤ 2 ^ 32 - 1) (map method_of xs)) c.as_slice-3.ensures.items
      (subst (λ ks. AllByRecursion (λ (m : Core.Method). (k : Core.Class) → slice_get (map class_of ks) m.class ≡ Some k →
      length m.slots + length k.fields ≤ 2 ^ 32 - 1) (map method_of c.as_slice-3.result.now)) c.as_slice-2.ensures.items
      c.in_ok-bound_methods.ensures);
}
