use Rattle.std.proofs.Common.{◌∙◌}
use Rattle.lsp_serving.proofs.Turns.{answered}
use Rattle.lsp_serving.proofs.turning.answered.Goals as goal

pub returns-clause-told : goal.returns-clause-told
returns-clause-told g c =
    answered (g.F.Folders.known c.args.folders.now) c.args.session.now c.args.id c.args.question.now c.as_str.result.now
    c.in_ok-files.files.items c.as_slice.result.now c.answer.result (c.as_str.ensures ∙ c.asked_about.ensures) c.as_slice.ensures.value
    c.in_ok-files.ensures.files c.answer.ensures
