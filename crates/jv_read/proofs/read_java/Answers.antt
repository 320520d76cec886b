use Rattle.mg_read.proofs.Offsets.{same_answer, same_told}
use Rattle.jv_read.specs.Outcome.{Outcome, answer_of}
use Rattle.jv_read.proofs.Staged.{answered_of, only_of}
use Rattle.jv_read.proofs.read_java.Goals as goal

pub returns-clause-answered : goal.returns-clause-answered
returns-clause-answered c =
    same_answer (Outcome c.args.file c.args.bytes.now) (answer_of c.read_of.result) (answer_of c.placed.result) c.placed.ensures.answer
    (answered_of c.args.file c.args.bytes.now c.read_of.result c.read_of.ensures)

pub returns-clause-only : goal.returns-clause-only
returns-clause-only c = λ a o.
    same_told (answer_of c.read_of.result) (answer_of c.placed.result) c.placed.ensures.answer a
    (only_of c.args.file c.args.bytes.now c.read_of.result c.read_of.ensures a o)
