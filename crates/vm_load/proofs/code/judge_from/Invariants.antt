use Rattle.std.proofs.Common.{◌≡◌, ◌++◌, ◌<◌, ◌^◌, map, drop}
use Rattle.cls_tree.specs.View.{instrs_of}
use Rattle.vm_model.specs.View.{instr_of}
use Rattle.vm_model.specs.Links.{right_in, wrong_in, lower, least, judged_from}
use Rattle.vm_load.specs.Faults.{best_flaw}
use Rattle.vm_load.specs.Outlines.{outlines_of}
use Rattle.indexmap.specs.IndexMap.{get}
use Rattle.vm_load.specs.Known.{AreRight}
use Rattle.vm_load.proofs.Remembered.{use_eq}
use Rattle.vm_load.proofs.code.judge_from.Given as goal

abbrev pub invariant-loop-instr : goal.invariant-loop-instr
invariant-loop-instr l = record {
  right : map instr_of l.code.items ++ right_in (judged_from (outlines_of l.outlines) l.pool l.starts l.place
      (instrs_of (drop l.instr-index l.instrs)))
      ≡ right_in (judged_from (outlines_of l.outlines) l.pool l.starts 0 (instrs_of l.instrs));
  wrong : lower (best_flaw l.best)
      (least (wrong_in (judged_from (outlines_of l.outlines) l.pool l.starts l.place (instrs_of (drop l.instr-index l.instrs)))))
      ≡ lower (best_flaw l.fn.best) (least (wrong_in (judged_from (outlines_of l.outlines) l.pool l.starts 0 (instrs_of l.instrs))));
  bound : l.place < 2 ^ 42;
  known : AreRight (outlines_of l.outlines) l.pool (get use_eq l.known);
}
