use Rattle.std.proofs.Common.{map, take}
use Rattle.std.specs.List.{AllZip}
use Rattle.vm_model.specs.View.{instr_of}
use Rattle.vm_flat.specs.Flat.{IsFlatInstr}
use Rattle.vm_flat.proofs.program.flat_code.Given as goal

abbrev pub invariant-loop-instr : goal.invariant-loop-instr
invariant-loop-instr l = AllZip IsFlatInstr l.flat.items (map instr_of (take l.instr-index l.code))
