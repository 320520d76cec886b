use Rattle.std.proofs.Common.{◌≡◌, ◌-◌, []}
use Rattle.jcf_read.specs.Answer.{folded}
use Rattle.jcf_read.specs.Front.{front_of}
use Rattle.jcf_read.specs.Pool.{pool_of}
use Rattle.std.specs.Prelude.{false}
use Rattle.jcf_read.specs.Constants.{const_turn}
use Rattle.jcf_read.proofs.constants.constants_of.Given as goal

abbrev pub invariant-loop : goal.invariant-loop
invariant-loop l = folded (const_turn (pool_of l.pool) (front_of l.front)) (l.count - l.counter) (l.constants.items, l.is_second, l.place)
    ≡ folded (const_turn (pool_of l.pool) (front_of l.front)) l.count ([], false, l.at)
