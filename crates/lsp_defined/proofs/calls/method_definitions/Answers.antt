use Rattle.std.proofs.Common.{Option, subst}
use Rattle.std.proofs.lemmas.Result.{IfOk-weaker}
use Rattle.jv_core.specs.Lookup.{text_at}
use Rattle.mg_sources.specs.Files.{Source}
use Rattle.lsp_defined.specs.Definitions.{AreOfFile}
use Rattle.lsp_defined.proofs.Defining.{by_file}
use Rattle.lsp_defined.proofs.calls.method_definitions.Goals as goal

pub returns : goal.returns
returns c =
    IfOk-weaker c.defined_by.result _ _ (λ v h.
    by_file c.args.encoding _ _ _ _ _ v.items c.in-Some.ensures.file c.name_text.ensures h) c.defined_by.ensures

pub returns-in_default : goal.returns-in_default
returns-in_default c =
    subst (λ (o : Option Source). AreOfFile c.args.encoding o c.args.method.now.place (text_at c.args.core.now c.args.method.now.name.0)
    c.new.result.items) c.in_default.ensures.file c.new.ensures.items
