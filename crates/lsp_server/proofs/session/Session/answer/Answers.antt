use Rattle.std.proofs.Common.{refl, ◌∙◌}
use Rattle.lsp_server.proofs.Fits.{fits, program_at}
use Rattle.lsp_server.proofs.Told.{answers_at}
use Rattle.lsp_server.proofs.session.Session.answer.Goals as goal

pub answer_of-requires : goal.answer_of-requires
answer_of-requires c =
    fits c.documents.result.now c.as_str.result.now c.args.files.now c.in_ok-program.program c.in_ok-program.ensures

pub returns : goal.returns
returns c = record {
  program = c.in_ok-program.program;
  is_program = program_at c.documents.result.now c.args.self.now.server.documents c.as_str.result.now _ c.args.files.now
      c.in_ok-program.program c.documents.ensures (c.as_str.ensures ∙ c.asked_about-document.ensures) c.in_ok-program.ensures;
  answer = c.in_ok-answer.answer;
  answers = answers_at c.encoding.result c.args.self.now.server.encoding c.in_ok-program.program c.args.question.now c.in_ok-answer.answer
      c.encoding.ensures c.in_ok-answer.ensures;
  is = refl;
}
