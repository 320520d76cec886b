use Rattle.std.proofs.Common.{ℕ, List, sym, subst}
use Rattle.std.proofs.lemmas.Result.{IfOk-weaker}
use Rattle.lsp_messages.specs.declared.outgoing.Item.{Item}
use Rattle.lsp_offers.specs.Offered as offered
use Rattle.lsp_offers.specs.Offered.{AreOfferedBehind, AreOffers}
use Rattle.lsp_offers.proofs.offering.offers.Goals as goal

pub returns-in-Some : goal.returns-in-Some
returns-in-Some c =
    IfOk-weaker c.offers_behind.result _ _ (λ v are.
    offered.text c.in-Some.text.now c.offset_of-offset.result c.in-Some.ensures.0 c.in-Some.ensures.1 c.offset_of-offset.ensures.means
    (subst (λ (t : List ℕ). AreOfferedBehind c.args.names.now c.args.contents.now c.args.file t c.offset_of-offset.result v.items)
    c.as_bytes.ensures.value are)) c.offers_behind.ensures

pub returns-in-None : goal.returns-in-None
returns-in-None c =
    subst (λ (items : List Item). AreOffers c.args.encoding c.args.names.now c.args.contents.now c.args.file c.args.position items)
    (sym c.new.ensures.items) (offered.no_text c.in-None.ensures)
