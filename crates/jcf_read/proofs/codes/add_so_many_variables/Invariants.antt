use Rattle.std.proofs.Common.{◌≡◌, ◌-◌}
use Rattle.jcf_read.specs.Answer.{folded}
use Rattle.jcf_read.specs.Front.{front_of}
use Rattle.jcf_read.specs.Pool.{pool_of}
use Rattle.jcf_read.specs.Codes.{variable_turn}
use Rattle.jcf_read.proofs.codes.add_so_many_variables.Given as goal

abbrev pub invariant-loop : goal.invariant-loop
invariant-loop l = folded (variable_turn (pool_of l.pool) (front_of l.front)) (l.count - l.counter) (l.variables.items, l.place)
    ≡ folded (variable_turn (pool_of l.pool) (front_of l.front)) l.count (l.fn.variables.items, l.at)
