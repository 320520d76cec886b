use Rattle.std.proofs.Common.{refl, sym, subst}
use Rattle.lsp_messages.specs.declared.incoming.Question.{Question}
use Rattle.lsp_messages.specs.declared.outgoing.Answer.TheVariants as answers
use Rattle.lsp_answers.specs.Answers.{IsAnswered}
use Rattle.lsp_answers.proofs.answers.answer.Goals as goal

pub returns-in_ok-items-in-Completion : goal.returns-in_ok-items-in-Completion
returns-in_ok-items-in-Completion c =
    let items = c.in_ok-items-in-Completion.items in
    subst (λ (q : Question). IsAnswered c.args.encoding c.args.names.now c.args.contents.now c.args.file q (answers.Completion items))
    (sym c.in-Completion.is) (items, refl, c.in_ok-items-in-Completion.ensures)

pub returns-in_ok-locations-in-Definition : goal.returns-in_ok-locations-in-Definition
returns-in_ok-locations-in-Definition c =
    let locations = c.in_ok-locations-in-Definition.locations in
    subst (λ (q : Question). IsAnswered c.args.encoding c.args.names.now c.args.contents.now c.args.file q (answers.Definition locations))
    (sym c.in-Definition.is) (locations, refl, c.in_ok-locations-in-Definition.ensures)

pub returns-in_ok-hints-in-Hints : goal.returns-in_ok-hints-in-Hints
returns-in_ok-hints-in-Hints c =
    let hints = c.in_ok-hints-in-Hints.hints in
    subst (λ (q : Question). IsAnswered c.args.encoding c.args.names.now c.args.contents.now c.args.file q (answers.Hints hints))
    (sym c.in-Hints.is) (hints, refl, c.in_ok-hints-in-Hints.ensures)
