use Rattle.std.proofs.Common.{Option, subst}
use Rattle.std.specs.Prelude.{IfOk}
use Rattle.jv_core.specs.Tree.{Method}
use Rattle.mg_sources.specs.Files.{sources}
use Rattle.lsp_defined.specs.Definitions.{AreOfMethod}
use Rattle.lsp_defined.proofs.calls.call_definitions.Goals as goal

pub returns-in-Some : goal.returns-in-Some
returns-in-Some c =
    subst (λ (o : Option Method). IfOk c.method_definitions.result (λ v.
    AreOfMethod c.args.encoding (sources c.args.names.now c.args.contents.now) c.args.core.now o v.items)) c.in-Some.ensures
    c.method_definitions.ensures

pub returns-in-None : goal.returns-in-None
returns-in-None c =
    subst (λ (o : Option Method). AreOfMethod c.args.encoding (sources c.args.names.now c.args.contents.now) c.args.core.now o
    c.new.result.items) c.in-None.ensures c.new.ensures.items
