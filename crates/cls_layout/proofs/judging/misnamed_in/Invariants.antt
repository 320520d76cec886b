use Rattle.std.proofs.Common.{drop}
use Rattle.cls_tree.specs.View.{instrs_of}
use Rattle.cls_layout.specs.Row.{is_bad_entry}
use Rattle.cls_layout.proofs.Judged.{Misnaming}
use Rattle.cls_layout.proofs.judging.misnamed_in.Given as goal

abbrev pub invariant-loop-instr : goal.invariant-loop-instr
invariant-loop-instr l = Misnaming (is_bad_entry l.bytes l.places) (instrs_of l.instrs) l.place (instrs_of (drop l.instr-index l.instrs))
