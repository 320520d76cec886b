use Rattle.std.proofs.Common.{refl, sym, ap, ◌∙◌, Option, List, Bool, Bor, option_map}
use Rattle.std.proofs.lemmas.Result.{on_ok_weaker}
use Rattle.mg_sets.specs.Sets.{members}
use Rattle.use_flow.specs.declared.offers.Offers.{Offers}
use Rattle.use_flow.specs.inner.Entering.{set_or_none}
use Rattle.use_flow.specs.inner.Offering.{states_of}
use Rattle.use_flow.proofs.Offering.{no_table, a_table, protocol_entered, protocol_none}
use Rattle.use_flow.proofs.entered.add_protocol.Goals as goal

abbrev now_of : Option (Bor Offers) → Option Offers
now_of = option_map (λ (o : Bor Offers). o.now)

pub returns-in_default-offers_in : goal.returns-in_default-offers_in
returns-in_default-offers_in c =
    protocol_none c.args.core.now c.args.reached.now c.args.method.now.class c.args.method_number _ _ _
    (no_table c.args.core.now c.args.offers.now c.requires c.args.method.now.class
    (sym (ap now_of (sym c.in_default-offers_in.is) ∙ c.offers_in.ensures)))
    refl

pub returns : goal.returns
returns c = on_ok_weaker c.add_states.result
    (protocol_entered c.args.core.now c.args.reached.now c.args.method.now.class c.args.method_number _ _ _
    c.in-Some-offers_in.offers.now c.in-Some.set.now _
    (a_table c.args.core.now c.args.offers.now c.requires c.args.method.now.class c.in-Some-offers_in.offers.now
    (sym (ap now_of (sym c.in-Some-offers_in.is) ∙ c.offers_in.ensures)))
    (ap (λ (r : Option (Bor (List Bool))). members (set_or_none (option_map (λ (s : Bor (List Bool)). s.now) r))) (sym c.in-Some.is)
    ∙ c.reached_in.ensures)
    (c.of.ensures ∙ ap (states_of c.in-Some-offers_in.offers.now) c.name_text-name.ensures))
    c.add_states.ensures
