use Rattle.std.proofs.Common.{◌∙◌, ap, arith, is_some, map, sym}
use Rattle.ts_tree.specs.View.{method_of}
use Rattle.ts_refine.proofs.Offering.{labelled_by}
use Rattle.ts_refine.proofs.Shown.{flawed, leads_out, goes_on, all_shown}
use Rattle.ts_refine.proofs.relation.are_shown.Goals as goal

pub calls_held-requires : goal.calls_held-requires
calls_held-requires c =
    labelled_by (λ m. method_of m.now) c.method_named-other.result (map method_of c.args.others.now) c.as_str.result.now c.requires
    c.method_named-other.ensures

pub returns-then-is_some : goal.returns-then-is_some
returns-then-is_some c =
    sym (sym c.loop-method.invariant ∙ flawed c.args.known.now (map method_of c.args.others.now) c.args.methods.now
    c.loop-method.method-index c.method-item.result _ c.as_str.result.now
    c.loop-method-test.true c.method-item.is c.as_str.ensures c.method_named-other.ensures (ap is_some (sym c.flaw_of.ensures) ∙
    sym c.is_some.ensures ∙ c.if-is_some.true))

pub returns-then-not-calls_held : goal.returns-then-not-calls_held
returns-then-not-calls_held c =
    sym (sym c.loop-method.invariant ∙ leads_out c.args.known.now (map method_of c.args.others.now) c.args.methods.now
    c.loop-method.method-index c.method-item.result _ c.as_str.result.now
    c.loop-method-test.true c.method-item.is c.as_str.ensures c.method_named-other.ensures (ap is_some (sym c.flaw_of.ensures) ∙
    sym c.is_some.ensures ∙ c.if-is_some.false)
    (sym c.calls_held.ensures ∙ c.if-not-calls_held.true))

pub loop-method-preserved : goal.loop-method-preserved
loop-method-preserved c =
    sym (goes_on c.args.known.now (map method_of c.args.others.now) c.args.methods.now c.loop-method.method-index c.method-item.result _
    c.as_str.result.now
    c.loop-method-test.true c.method-item.is c.as_str.ensures c.method_named-other.ensures (ap is_some (sym c.flaw_of.ensures) ∙
    sym c.is_some.ensures ∙ c.if-is_some.false)
    (sym c.calls_held.ensures ∙ c.if-not-calls_held.false)) ∙ c.loop-method.invariant

pub returns : goal.returns
returns c =
    sym (sym c.loop-method.invariant ∙ all_shown c.args.known.now (map method_of c.args.others.now) c.args.methods.now
    c.loop-method.method-index (omega (arith, c.loop-method-test.false)))
