use Rattle.std.proofs.Common.{ap, ◌∙◌}
use Rattle.std.proofs.lemmas.Result.{IfOk-weaker}
use Rattle.lsp_offers.specs.Attempts.{attempts}
use Rattle.lsp_offers.proofs.Trying.{here_by, none_here}
use Rattle.lsp_offers.proofs.typing.Typing.offers.Goals as goal

pub returns-in_ok-attempts-in-Some : goal.returns-in_ok-attempts-in-Some
returns-in_ok-attempts-in-Some c =
    IfOk-weaker c.offered.result _ _ (λ v told.
    here_by c.args.self.now c.in_ok-sources.field-0 c.in-Some.sources c.in_ok-sources.ensures c.in-Some.is
    c.as_slice-in-Some.result.now v.items
    (c.as_slice-in-Some.ensures.value ∙ c.in_ok-attempts-in-Some.ensures ∙ ap attempts c.as_slice.ensures.items) told) c.offered.ensures

pub returns-in-None : goal.returns-in-None
returns-in-None c =
    none_here c.args.self.now c.in_ok-sources.field-0 c.in_ok-sources.ensures c.in-None.is c.new.result.items c.new.ensures.items
