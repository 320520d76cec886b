use Rattle.std.proofs.Common.{◌≡◌, ◌-◌}
use Rattle.jcf_read.specs.Answer.{folded}
use Rattle.jcf_read.specs.Front.{front_of}
use Rattle.jcf_read.specs.Pool.{pool_of}
use Rattle.jcf_read.specs.Class.{interface_turn}
use Rattle.jcf_read.proofs.whole.add_interfaces.Given as goal

abbrev pub invariant-loop : goal.invariant-loop
invariant-loop l = folded (interface_turn (pool_of l.pool) (front_of l.front)) (l.count - l.counter) (l.interfaces.items, l.place)
    ≡ folded (interface_turn (pool_of l.pool) (front_of l.front)) l.count (l.fn.interfaces.items, l.at)
