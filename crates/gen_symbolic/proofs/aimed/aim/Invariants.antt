use Rattle.std.proofs.Common.{◌≡◌, take, map}
use Rattle.jv_core.specs.Tree.{Program}
use Rattle.gen_expressions.specs.View.{instrs_of}
use Rattle.gen_expressions.specs.Aimed.{aimed}
use Rattle.gen_symbolic.proofs.aimed.aim.Given as goal

abbrev pub invariant-loop-instr : goal.invariant-loop-instr
invariant-loop-instr l = (p : Program) → instrs_of p l.out.items ≡ map (aimed l.labels) (instrs_of p (take l.instr-index l.instrs))
