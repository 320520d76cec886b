use Rattle.std.proofs.Common.{ap, ◌∙◌, arith}
use Rattle.std.proofs.lemmas.Grind.{common_steps}
use Rattle.mg_text.specs.Interned.{with_text}
use Rattle.ts_tree.specs.View.{method_of}
use Rattle.jv_types.specs.inner.Offering.{offers_seen}
use Rattle.jv_types.proofs.Offering.{names_step, firsts_step, none_new, one_new, seen_push}
use Rattle.jv_types.proofs.protocols.first_offers.Goals as goal

-- a method whose name was met
pub loop-offer-preserved-then-not-fresh : goal.loop-offer-preserved-then-not-fresh
loop-offer-preserved-then-not-fresh c =
    let grown = c.in_ok-fresh.ensures.names ∙ ap (with_text c.loop-offer.names) c.as_str.ensures in
    record {
      names =
          names_step c.args.offers.now c.loop-offer.offer-index c.offer-item.result c.loop-offer-test.true c.offer-item.is
          c.loop-offer.names c.note.new.met grown ∙ c.loop-offer.invariant.names;
      firsts =
          firsts_step c.args.offers.now c.loop-offer.offer-index c.offer-item.result c.loop-offer-test.true c.offer-item.is
          c.loop-offer.names c.note.new.met grown (offers_seen c.loop-offer.firsts.items) (offers_seen c.loop-offer.firsts.items)
          (none_new _ _ (method_of c.offer-item.result.now) c.as_str.result.now c.in_ok-fresh.fresh c.as_str.ensures
          c.in_ok-fresh.ensures.new c.if-not-fresh.true) ∙ c.loop-offer.invariant.firsts;
    }

-- a method whose name is new
pub loop-offer-preserved : goal.loop-offer-preserved
loop-offer-preserved c =
    let grown = c.in_ok-fresh.ensures.names ∙ ap (with_text c.loop-offer.names) c.as_str.ensures in
    record {
      names =
          names_step c.args.offers.now c.loop-offer.offer-index c.offer-item.result c.loop-offer-test.true c.offer-item.is
          c.loop-offer.names c.note.new.met grown ∙ c.loop-offer.invariant.names;
      firsts =
          firsts_step c.args.offers.now c.loop-offer.offer-index c.offer-item.result c.loop-offer-test.true c.offer-item.is
          c.loop-offer.names c.note.new.met grown (offers_seen c.loop-offer.firsts.items) (offers_seen c.push.new.self.items)
          (one_new _ _ _ (method_of c.offer-item.result.now) c.as_str.result.now c.in_ok-fresh.fresh c.as_str.ensures
          c.in_ok-fresh.ensures.new c.if-not-fresh.false (seen_push _ _ c.offer-item.result c.in_ok-push.ensures.items))
          ∙ c.loop-offer.invariant.firsts;
    }

pub returns-clause-firsts : goal.returns-clause-firsts
returns-clause-firsts c = grind (arith, common_steps)

pub returns-clause-names : goal.returns-clause-names
returns-clause-names c = grind (arith, common_steps)
