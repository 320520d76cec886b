use Rattle.std.proofs.Common.{◌≡◌, map, take}
use Rattle.jv_resolve.proofs.locals.slots.Given as goal

abbrev pub invariant-loop-declared : goal.invariant-loop-declared
invariant-loop-declared l = l.slots.items ≡ map (λ d. d.it.slot) (take l.declared-index l.stack)
