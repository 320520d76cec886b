use Rattle.std.proofs.Common.{List, Option, sym, ap, ◌∙◌}
use Rattle.std.specs.Borrow.{Bor}
use Rattle.std.specs.Prelude.{option_map}
use Rattle.std.proofs.lemmas.Result.{IfOk-weaker}
use Rattle.ts_tree.specs.Typestate.{State, Typestate}
use Rattle.use_elements.specs.Mappings.{typestate_or_end}
use Rattle.lsp_offers.specs.Items.{items_of}
use Rattle.lsp_offers.proofs.Placed.{states_are}
use Rattle.lsp_offers.proofs.called.offered_of.Goals as goal

pub returns-in-Some : goal.returns-in-Some
returns-in-Some c =
    IfOk-weaker c.items_of.result _ _ (λ v is.
    is ∙ ap (λ (ss : List State). items_of ss c.args.set.now)
    (states_are c.in-Some.typestate.now c.typestate.inside.name c.typestate.inside.states.items c.as_slice.result.now c.typestate.view_is
    c.as_slice.ensures.items
    ∙ sym (ap (λ (o : Option (Bor Typestate)). (typestate_or_end (option_map (λ t. t.now) o)).states) c.in-Some.is))) c.items_of.ensures

pub returns-in-None : goal.returns-in-None
returns-in-None c =
    IfOk-weaker c.items_of-in-None.result _ _ (λ v is.
    is ∙ sym (ap (λ (o : Option (Bor Typestate)). items_of (typestate_or_end (option_map (λ t. t.now) o)).states c.args.set.now)
    c.in-None.is)) c.items_of-in-None.ensures
