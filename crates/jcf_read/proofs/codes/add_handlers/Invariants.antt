use Rattle.std.proofs.Common.{◌≡◌, ◌-◌}
use Rattle.jcf_read.specs.Answer.{folded}
use Rattle.jcf_read.specs.Front.{front_of}
use Rattle.jcf_read.specs.Pool.{pool_of}
use Rattle.jcf_read.specs.Codes.{handler_turn}
use Rattle.jcf_read.proofs.codes.add_handlers.Given as goal

abbrev pub invariant-loop : goal.invariant-loop
invariant-loop l = folded (handler_turn (pool_of l.pool) l.marks l.length (front_of l.front)) (l.count - l.counter)
    (l.handlers.items, l.place)
    ≡ folded (handler_turn (pool_of l.pool) l.marks l.length (front_of l.front)) l.count (l.fn.handlers.items, l.at)
