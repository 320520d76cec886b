use Rattle.std.proofs.Common.{◌≡◌, ◌-◌}
use Rattle.jcf_read.specs.Answer.{folded}
use Rattle.jcf_read.specs.Front.{front_of}
use Rattle.jcf_read.specs.Pool.{pool_of}
use Rattle.jcf_read.specs.Codes.{table_turn}
use Rattle.jcf_read.proofs.codes.add_tables.Given as goal

abbrev pub invariant-loop : goal.invariant-loop
invariant-loop l = folded (table_turn (pool_of l.pool) l.constants (front_of l.front)) (l.count - l.counter)
    (l.lines.items, l.variables.items, l.place)
    ≡ folded (table_turn (pool_of l.pool) l.constants (front_of l.front)) l.count (l.fn.lines.items, l.fn.variables.items, l.at)
