use Rattle.std.proofs.Common.{◌≡◌, ◌-◌, length}
use Rattle.jcf_read.specs.Pool.{pool_of}
use Rattle.jcf_read.specs.Jumps.{first_fault}
use Rattle.jcf_read.proofs.jumps.first_fault.Given as goal

abbrev pub invariant-loop : goal.invariant-loop
invariant-loop l = first_fault (pool_of l.pool) l.marks l.code l.fn.end (length l.code - l.counter) l.rest
    ≡ first_fault (pool_of l.pool) l.marks l.code l.fn.end (length l.code) l.code
