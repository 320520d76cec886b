use Rattle.std.proofs.Common.{◌≡◌}
use Rattle.std.specs.Prelude.{reverse}
use Rattle.jv_core.specs.Numbering.{numbers_from}
use Rattle.gen_expressions.proofs.locals.params.Given as goal

abbrev pub invariant-loop-slot : goal.invariant-loop-slot
invariant-loop-slot l = l.locals ≡ reverse (numbers_from 0 l.slot)
