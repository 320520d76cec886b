use Rattle.std.proofs.Common.{◌≡◌, drop, take}
use Rattle.std.specs.List.{AllByRecursion}
use Rattle.cls_tree.specs.View.{instrs_of}
use Rattle.cls_tree.specs.Layout.{code_bytes}
use Rattle.cls_tree.specs.Fits.{FitsInstr}
use Rattle.cls_tree.specs.Jumps.{starts_from}
use Rattle.cls_code.proofs.writing.placed_bytes.Given as goal

abbrev pub invariant-loop-instr : goal.invariant-loop-instr
invariant-loop-instr l =
    record {
      bytes : l.bytes ≡ code_bytes (instrs_of (take l.instr-index l.instrs));
      starts : l.starts.items ≡ starts_from 0 (instrs_of (take l.instr-index l.instrs));
      fit : AllByRecursion FitsInstr (instrs_of (drop l.instr-index l.instrs));
    }
