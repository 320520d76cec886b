use Rattle.std.proofs.Common.{◌≡◌, ◌-◌}
use Rattle.jcf_read.specs.Answer.{folded}
use Rattle.jcf_read.specs.Front.{front_of}
use Rattle.jcf_read.specs.Pool.{pool_of}
use Rattle.jcf_read.specs.Annotations.{element_turn}
use Rattle.jcf_read.proofs.annotations.add_elements.Given as goal

abbrev pub invariant-loop : goal.invariant-loop
invariant-loop l = folded (element_turn (pool_of l.pool) (front_of l.front)) (l.count - l.counter) (l.elements.items, l.place)
    ≡ folded (element_turn (pool_of l.pool) (front_of l.front)) l.count (l.fn.elements.items, l.at)
