use Rattle.std.proofs.Common.{◌≡◌, [], ℕ, List}
use Rattle.std.proofs.lemmas.Result.{IfOk-weaker}
use Rattle.jv_core.specs.Tree.{Program}
use Rattle.mg_sources.specs.Files.{sources}
use Rattle.lsp_sights.specs.Answers.{bytes_at}
use Rattle.lsp_sights.proofs.Answering.{told_of, none_of}
use Rattle.lsp_defined.specs.Definitions.{AreAt}
use Rattle.lsp_defined.proofs.calls.definitions.Goals as goal

pub returns-in-Some-2 : goal.returns-in-Some-2
returns-in-Some-2 c =
    let files = sources c.args.names.now c.args.contents.now in
    let text = bytes_at c.args.contents.now c.args.file in
    IfOk-weaker c.definitions_at.result _ _ (λ v are.
    told_of files text c.in_ok-core.field-0
    (λ (t : List ℕ) (p : Program). AreAt c.args.encoding files p t c.args.file c.args.position v.items) (v.items ≡ []) c.in-Some.text.now
    c.in-Some-2.core c.in-Some.ensures.0 c.in-Some.ensures.1 c.in_ok-core.ensures c.in-Some-2.is are) c.definitions_at.ensures

pub returns-in-None : goal.returns-in-None
returns-in-None c =
    let files = sources c.args.names.now c.args.contents.now in
    let text = bytes_at c.args.contents.now c.args.file in
    none_of files text c.in_ok-core.field-0
    (λ (p : Program). AreAt c.args.encoding files p text c.args.file c.args.position c.new-in-None.result.items) _ c.in_ok-core.ensures
    c.in-None.is c.new-in-None.ensures.items
