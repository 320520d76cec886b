use Rattle.std.proofs.Common.{refl, ap, ◌∙◌, arith}
use Rattle.std.proofs.lemmas.Grind.{common_steps}
use Rattle.mg_text.specs.Interned.{with_text}
use Rattle.jv_types.specs.Tables.{program_in}
use Rattle.jv_types.proofs.Offering.{name_is, differ_is, not_noted, now_noted, met_step, all_met}
use Rattle.jv_types.proofs.labels.mislabelled.Goals as goal

pub loop-protocol-init : goal.loop-protocol-init
loop-protocol-init c =
    all_met (program_in c.args.table.now) _ _ c.as_slice-protocol-items.result.now c.args.table.now.protocols.items
    c.args.table.now.typestates.now c.new-met.ensures c.as_slice-protocol-items.ensures.value c.args.table.now.tabled.all_typestates refl

pub loop-protocol-preserved-then-not-differ : goal.loop-protocol-preserved-then-not-differ
loop-protocol-preserved-then-not-differ c =
    let t = c.protocol-item.result.of.now in
    met_step (program_in c.args.table.now) c.as_slice-protocol-items.result.now c.loop-protocol.protocol-index c.protocol-item.result
    c.loop-protocol-test.true c.protocol-item.is c.loop-protocol.met _
    (not_noted _ _ _ c.in_ok-differ.differ
    (differ_is (program_in c.args.table.now) t c.as_slice.result.now c.protocol-item.result.offers.items c.in_ok-differ.differ
    c.as_slice.ensures.value c.protocol-item.result.all c.in_ok-differ.ensures) c.if-not-differ.true)
    ∙ c.loop-protocol.invariant

pub loop-protocol-preserved : goal.loop-protocol-preserved
loop-protocol-preserved c =
    let t = c.protocol-item.result.of.now in
    met_step (program_in c.args.table.now) c.as_slice-protocol-items.result.now c.loop-protocol.protocol-index c.protocol-item.result
    c.loop-protocol-test.true c.protocol-item.is c.loop-protocol.met _
    (now_noted c.loop-protocol.met _ _ _ c.in_ok-differ.differ
    (differ_is (program_in c.args.table.now) t c.as_slice.result.now c.protocol-item.result.offers.items c.in_ok-differ.differ
    c.as_slice.ensures.value c.protocol-item.result.all c.in_ok-differ.ensures) c.if-not-differ.false
    (c.in_ok-note.ensures.names
    ∙ ap (with_text c.loop-protocol.met) (name_is t c.typestate.inside.name c.typestate.inside.states.items c.typestate.view_is
    c.as_str.result.now c.as_str.ensures)))
    ∙ c.loop-protocol.invariant

pub returns : goal.returns
returns c = grind (arith, common_steps)
