use Rattle.std.proofs.Common.{◌≡◌}
use Rattle.jv_core.specs.Numbering.{numbers_from}
use Rattle.jv_resolve.proofs.classes.rising.Given as goal

abbrev pub invariant-loop-offset : goal.invariant-loop-offset
invariant-loop-offset l = l.numbers.items ≡ numbers_from l.first l.offset
