use Rattle.std.proofs.Common.{sym, ◌∙◌}
use Rattle.fit_uses.proofs.Beside.{adding_goes}
use Rattle.fit_uses.proofs.making.add_uses_beside_making.Goals as goal

pub loop-number-preserved : goal.loop-number-preserved
loop-number-preserved c =
    adding_goes c.args.class c.args.body.now c.loop-number.number c.loop-number.uses.items _ c.loop-number.invariant
    c.index-body-number.result c.loop-number-test.true c.index-body-number.is (sym c.makes.ensures ∙ c.if-makes.false)
    (sym c.returns.ensures ∙ c.if-returns.false) c.uses_in.new.uses.items c.in_ok-uses_in.ensures
