use Rattle.std.proofs.Common.{◌≡◌, [], ℕ, List}
use Rattle.std.proofs.lemmas.Result.{IfOk-weaker}
use Rattle.jv_core.specs.Tree.{Program}
use Rattle.mg_sources.specs.Files.{sources}
use Rattle.lsp_sights.specs.Answers.{AreHintsIn, bytes_at}
use Rattle.lsp_sights.proofs.Answering.{told_of, none_of}
use Rattle.lsp_sights.proofs.answers.hints.Goals as goal

pub returns-in-Some-2 : goal.returns-in-Some-2
returns-in-Some-2 c =
    let text = bytes_at c.args.contents.now c.args.file in
    IfOk-weaker c.hints_in.result _ _ (λ v are.
    told_of (sources c.args.names.now c.args.contents.now) text c.in_ok-core.field-0
    (λ (t : List ℕ) (p : Program). AreHintsIn c.args.encoding t p c.args.file c.args.range v.items) (v.items ≡ []) c.in-Some.text.now
    c.in-Some-2.core c.in-Some.ensures.0 c.in-Some.ensures.1 c.in_ok-core.ensures c.in-Some-2.is are) c.hints_in.ensures

pub returns-in-None : goal.returns-in-None
returns-in-None c =
    let text = bytes_at c.args.contents.now c.args.file in
    none_of (sources c.args.names.now c.args.contents.now) text c.in_ok-core.field-0
    (λ (p : Program). AreHintsIn c.args.encoding text p c.args.file c.args.range c.new-in-None.result.items) _ c.in_ok-core.ensures
    c.in-None.is c.new-in-None.ensures.items
