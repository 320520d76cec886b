use Rattle.std.proofs.Common.{map, sym, ap, ◌∙◌, ◌||◌, drop, ◌+◌}
use Rattle.jv_tree.specs.View.{group_of, groups_of}
use Rattle.jv_rules.specs.inner.Leaving.{has_default}
use Rattle.jv_types.proofs.Leaving.{default_at, default_done}
use Rattle.jv_types.proofs.completes.has_default.Goals as goal

pub loop-group-preserved : goal.loop-group-preserved
loop-group-preserved c =
    sym (default_at c.args.groups.now c.loop-group.group-index c.group-item.result c.loop-group-test.true c.group-item.is
    c.as_slice.result.now c.as_slice.ensures.items
    ∙ ap (λ b. b || has_default (groups_of (map group_of (drop (c.loop-group.group-index + 1) c.args.groups.now))))
    (sym c.is_default_in.ensures ∙ c.if-is_default_in.false))
    ∙ c.loop-group.invariant

pub returns-then-is_default_in : goal.returns-then-is_default_in
returns-then-is_default_in c =
    sym (sym c.loop-group.invariant ∙ default_at c.args.groups.now c.loop-group.group-index c.group-item.result c.loop-group-test.true
    c.group-item.is c.as_slice.result.now c.as_slice.ensures.items
    ∙ ap (λ b. b || has_default (groups_of (map group_of (drop (c.loop-group.group-index + 1) c.args.groups.now))))
    (sym c.is_default_in.ensures ∙ c.if-is_default_in.true))

pub returns : goal.returns
returns c = sym (sym c.loop-group.invariant ∙ default_done c.args.groups.now c.loop-group.group-index c.loop-group-test.false)
