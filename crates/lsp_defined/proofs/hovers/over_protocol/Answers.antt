use Rattle.std.proofs.Common.{◌∙◌}
use Rattle.std.proofs.lemmas.Result.{IfOk-weaker}
use Rattle.lsp_defined.proofs.Hovering.{said_by}
use Rattle.lsp_defined.proofs.hovers.over_protocol.Goals as goal

pub returns : goal.returns
returns c =
    IfOk-weaker c.said_at.result _ _ (λ a h.
    said_by c.args.encoding c.args.position c.args.text.now _ _ _ c.as_slice.result.now a c.in_ok-typestate.ensures.numbered
    (c.as_slice.ensures.value ∙ c.in_ok-spots.ensures) h) c.said_at.ensures
