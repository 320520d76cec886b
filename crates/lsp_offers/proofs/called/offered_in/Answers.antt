use Rattle.std.specs.Prelude.{option_map}
use Rattle.std.proofs.lemmas.Result.{IfOk-weaker}
use Rattle.jv_core.specs.View.{method_of}
use Rattle.use_elements.specs.Mappings.{typestate_or_end}
use Rattle.lsp_offers.proofs.Placed.{items_by}
use Rattle.lsp_offers.proofs.called.offered_in.Goals as goal

pub returns-in-Some : goal.returns-in-Some
returns-in-Some c =
    IfOk-weaker c.offered_of.result _ _ (λ v are.
    items_by c.args.core.now c.args.site c.args.set.now (method_of c.in-Some.method.now)
    (typestate_or_end (option_map (λ t. t.now) c.typestate_of.result)) v.items c.in-Some.ensures.method c.typestate_of.ensures are)
    c.offered_of.ensures
