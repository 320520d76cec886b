use Rattle.gen_symbolic.proofs.Loops.{starts, group_passed}
use Rattle.std.proofs.Common.{arith, sym, ◌∙◌}
use Rattle.gen_symbolic.specs.inner.Drafting.{wanted}
use Rattle.gen_symbolic.proofs.switches.group_at.Goals as goal

pub loop-group-preserved : goal.loop-group-preserved
loop-group-preserved c =
    group_passed (wanted c.args.position) c.args.groups.now c.loop-group.group-index c.loop-group.label _ c.loop-group.invariant
    c.group-item.result
    (omega arith) c.group-item.is c.as_slice.result.now c.in_ok-label.label c.as_slice.ensures.items
    (sym c.has_label.ensures ∙ c.if-has_label.false) c.in_ok-label.ensures

pub returns : goal.returns
returns c = grind (arith, starts)

pub returns-then-has_label : goal.returns-then-has_label
returns-then-has_label c = grind (arith, starts)
