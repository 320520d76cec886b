use Rattle.cls_layout.proofs.Judged.{text_right, text_wrong}
use Rattle.cls_layout.proofs.judging.text_fault.Goals as goal
use Rattle.cls_layout.proofs.judging.text_fault.Goals.{in-Ok, in-Err-Syntax, in-Err-Memory}

pub returns : goal.returns
returns c = elim c.match-text_in.branch [
  | in-Ok w ↦ rw w.result-is (text_right c.args.bytes.now w.in-Ok.field-0 c.args.at w.in-Ok.ensures)
  | in-Err-Syntax w ↦ rw w.result-is (text_wrong c.args.bytes.now c.args.at (rw w.in-Err-Syntax.field-0-is at w.in-Err-Syntax.ensures))
  | in-Err-Memory w ↦ rw w.result-is tt
]
