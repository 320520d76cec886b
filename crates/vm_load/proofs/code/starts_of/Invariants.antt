use Rattle.std.proofs.Common.{◌≡◌, ◌++◌, ◌<◌, ◌^◌, drop}
use Rattle.cls_tree.specs.View.{instrs_of}
use Rattle.cls_tree.specs.Jumps.{starts_from}
use Rattle.vm_load.proofs.code.starts_of.Given as goal

abbrev pub invariant-loop-instr : goal.invariant-loop-instr
invariant-loop-instr l = record {
  whole : l.starts.items ++ starts_from l.place (instrs_of (drop l.instr-index l.instrs)) ≡ starts_from 0 (instrs_of l.instrs);
  bound : l.place < 2 ^ 42;
}
