use Rattle.std.proofs.Common.{drop}
use Rattle.gen_expressions.specs.View.{instrs_of}
use Rattle.gen_pool.specs.Made.{IsFrontOf}
use Rattle.gen_members.specs.Laid.{laid}
use Rattle.gen_members.proofs.Assembling.{IsLeft}
use Rattle.gen_members.proofs.laying.lay_out.Given as goal

-- what is laid of the rest, behind what was laid, is what is laid of all, and the pool keeps its entries first
abbrev pub invariant-loop-instr : goal.invariant-loop-instr
invariant-loop-instr l =
    IsLeft (instrs_of l.fn.core (drop l.instr-index l.instrs)) l.laid.numbers.items l.laid.starts.items l.laid.end l.pool
    (laid 0 (instrs_of l.fn.core l.fn.instrs) l.fn.pool) × IsFrontOf l.fn.pool l.pool
