use Rattle.std.proofs.Common.{map, take_all, ap, sym, ◌∙◌}
use Rattle.jv_core.specs.View.{method_of}
use Rattle.fit_judge.proofs.Tables.{uses_to, uses_past, uses_with}
use Rattle.fit_judge.proofs.code.own_uses.Goals as goal

pub loop-method-preserved-then-is_generated : goal.loop-method-preserved-then-is_generated
loop-method-preserved-then-is_generated c = λ roles mains held by.
    uses_past roles c.args.core.now mains c.methods-method-items.result.now c.loop-method.method-index c.method-item.result
    c.loop-method-test.true c.method-item.is c.loop-method.uses.items (c.loop-method.invariant roles mains held by)
    (sym c.if-is_generated.true ∙ c.is_generated.ensures roles held)

pub loop-method-preserved : goal.loop-method-preserved
loop-method-preserved c = λ roles mains held by.
    uses_with roles c.args.core.now mains c.methods-method-items.result.now c.loop-method.method-index c.method-item.result
    c.loop-method-test.true c.method-item.is c.loop-method.uses.items c.add_method.new.uses.items (c.loop-method.invariant roles mains held by)
    (sym c.if-is_generated.false ∙ c.is_generated.ensures roles held) (c.in_ok-add_method.ensures mains by)

pub returns : goal.returns
returns c = λ roles mains held by.
    c.loop-method.invariant roles mains held by
    ∙ ap (uses_to roles c.args.core.now mains)
    (ap (map method_of) (take_all c.loop-method.method-index c.methods-method-items.result.now c.loop-method-test.false)
    ∙ c.methods-method-items.ensures.all)
