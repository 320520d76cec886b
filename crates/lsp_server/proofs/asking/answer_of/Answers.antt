use Rattle.std.proofs.Common.{rules, sym}
use Rattle.lsp_server.proofs.Told.{answered}
use Rattle.lsp_server.proofs.asking.answer_of.Goals as goal

pub returns-in-Some : goal.returns-in-Some
returns-in-Some c =
    answered c.args.encoding c.args.program.now c.args.question.now c.in-Some.file c.answer.result (search rules)
    (rw (sym c.as_slice-names.ensures.value) rw (sym c.as_slice.ensures.value) c.answer.ensures)
