use Rattle.std.proofs.Common.{Option, subst}
use Rattle.std.specs.Prelude.{IfOk}
use Rattle.mg_sources.specs.Files.{Source}
use Rattle.lsp_defined.specs.Hovers.{IsHoverFor}
use Rattle.lsp_defined.proofs.hovers.hover.Goals as goal

pub returns-in-Some : goal.returns-in-Some
returns-in-Some c =
    subst (λ (o : Option Source). IfOk c.over_file.result (λ a. IsHoverFor c.args.encoding o c.args.position a)) c.in-Some.ensures.file
    c.over_file.ensures
