use Rattle.mg_read.proofs.Offsets.{same_answer, same_told}
use Rattle.ts_read.specs.Outcome.{Outcome, answer_of}
use Rattle.ts_read.proofs.Unique.{only_of}
use Rattle.ts_read.proofs.read_typestate.Goals as goal

pub returns-clause-answered : goal.returns-clause-answered
returns-clause-answered c =
    same_answer (Outcome c.args.file c.args.bytes.now) (answer_of c.read_of.result) (answer_of c.placed.result) c.placed.ensures.answer
    c.read_of.ensures

pub returns-clause-only : goal.returns-clause-only
returns-clause-only c = λ a o.
    same_told (answer_of c.read_of.result) (answer_of c.placed.result) c.placed.ensures.answer a
    (only_of c.args.file c.args.bytes.now c.read_of.result c.read_of.ensures a o)
