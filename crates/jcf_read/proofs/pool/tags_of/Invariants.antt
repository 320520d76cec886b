use Rattle.std.proofs.Common.{◌≡◌, ◌-◌, ◌++◌}
use Rattle.std.specs.Prelude.{false}
use Rattle.jcf_read.specs.Pool.{tags_from}
use Rattle.jcf_read.proofs.pool.tags_of.Given as goal

abbrev pub invariant-loop : goal.invariant-loop
invariant-loop l = l.tags.items ++ tags_from (l.count - l.counter) l.is_second l.rest ≡ tags_from l.count false l.bytes
