use Rattle.std.proofs.lemmas.Result.{IfOk-weaker}
use Rattle.lsp_answers.specs.Answers.{of_calls, of_names}
use Rattle.lsp_answers.proofs.Documents.{at_index, is_java, no_java}
use Rattle.lsp_answers.proofs.answers.hover.Goals as goal

pub returns-then-is_java : goal.returns-then-is_java
returns-then-is_java c =
    let named = at_index c.args.names.now c.args.file _ c.requires.file c.index-names-file.is in
    IfOk-weaker c.hover.result _ _ (λ a is.
    of_calls (is_java c.args.names.now c.args.file _ _ named c.is_java.ensures c.if-is_java.true) is) c.hover.ensures

pub returns : goal.returns
returns c =
    let named = at_index c.args.names.now c.args.file _ c.requires.file c.index-names-file.is in
    IfOk-weaker c.hover-2.result _ _ (λ a is.
    of_names (no_java c.args.names.now c.args.file _ _ named c.is_java.ensures c.if-is_java.false) is) c.hover-2.ensures
