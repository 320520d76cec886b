use Rattle.std.proofs.Common.{◌≡◌, ap, ◌∙◌}
use Rattle.jv_rules.specs.Program.{offers_in}
use Rattle.jv_types.specs.inner.Offering.{offers_seen}
use Rattle.jv_types.proofs.Offering.{states_are, made_alike, made_first, made_named}
use Rattle.jv_types.proofs.protocols.protocol_of.Goals as goal

pub invariant_of-result : goal.invariant_of-result
invariant_of-result c =
    let t = c.args.typestate.now in
    let all : offers_seen c.in_ok-offers.offers.items ≡ offers_in t.states =
    c.in_ok-offers.ensures ∙ ap offers_in (states_are t c.typestate.inside.name c.typestate.inside.states.items c.typestate.view_is
    c.as_slice.result.now c.as_slice.ensures.items) in
    record {
      all = all;
      first = made_first (offers_in t.states) _ _ c.as_slice-2.result.now c.in_ok-offers.offers.items c.new-names.ensures
          c.as_slice-2.ensures.value all c.in_ok-firsts.ensures.firsts;
      alike = made_alike t c.typestate.inside.name c.typestate.inside.states.items c.typestate.view_is c.typestate.invariant;
      named = made_named t _ _ c.as_slice-2.result.now c.in_ok-offers.offers.items c.new-names.ensures c.as_slice-2.ensures.value all
          c.in_ok-firsts.ensures.names;
    }
