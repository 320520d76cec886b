use Rattle.std.proofs.Common.{◌≡◌, ◌++◌, drop, not}
use Rattle.std.specs.Prelude.{nat_eq}
use Rattle.std.specs.List.{filter, list_any}
use Rattle.use_flow.proofs.course.leaving.Given as goal

abbrev pub invariant-loop-slot : goal.invariant-loop-slot
invariant-loop-slot l =
    l.left.items ++ filter (λ k. not (list_any (nat_eq k) l.stays)) (drop l.slot-index l.scope) ≡ filter
    (λ k. not (list_any (nat_eq k) l.stays)) l.scope
