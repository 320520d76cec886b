use Rattle.std.proofs.Common.{ap}
use Rattle.mg_text.specs.Call.{Name}
use Rattle.lsp_messages.specs.declared.outgoing.Answer.TheVariants as answers
use Rattle.lsp_defined.proofs.shown.said_of.Goals as goal

pub returns : goal.returns
returns c =
    (c.range_of.result, ap (λ (n : Name). answers.Hover n c.range_of.result) c.in_ok-lines.ensures, c.range_of.ensures)
