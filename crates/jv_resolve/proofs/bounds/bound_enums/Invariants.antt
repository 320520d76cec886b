use Rattle.std.proofs.Common.{◌≤◌, ◌^◌, drop, map, length}
use Rattle.std.specs.List.{AllByRecursion}
use Rattle.jv_core.specs.View.{enum_of}
use Rattle.jv_resolve.proofs.bounds.bound_enums.Given as goal

abbrev pub invariant-loop-of : goal.invariant-loop-of
invariant-loop-of l = AllByRecursion (λ e. length e.constants ≤ 2 ^ 31) (map enum_of (drop l.of-index l.enums)) →
    AllByRecursion (λ e. length e.constants ≤ 2 ^ 31) (map enum_of l.enums)
