use Rattle.std.proofs.Common.{◌+◌, drop, map, sym, ap, ◌∙◌}
use Rattle.std.specs.Prelude.{option_map, ◌||◌}
use Rattle.std.specs.List.{list_any}
use Rattle.ts_tree.specs.Calls.{may_end}
use Rattle.use_elements.specs.Mappings.{typestate_or_end}
use Rattle.use_flow.proofs.Leaving.{or_true_is, branch_ended, branches_ended}
use Rattle.use_flow.proofs.exits.branch_ends.Goals as goal

pub returns-then-may_end : goal.returns-then-may_end
returns-then-may_end c =
    let t = typestate_or_end (option_map (λ t. t.now) c.args.typestate) in
    or_true_is (may_end t c.branch-item.result.to)
    (list_any (may_end t) (map (λ b. b.to) (drop (c.loop-branch.branch-index + 1) c.args.branches.now)))
    (sym c.may_end.ensures ∙ c.if-may_end.true)
    ∙ sym (branch_ended t c.args.branches.now c.loop-branch.branch-index c.branch-item.result c.loop-branch-test.true c.branch-item.is)
    ∙ c.loop-branch.invariant

pub loop-branch-preserved : goal.loop-branch-preserved
loop-branch-preserved c =
    let t = typestate_or_end (option_map (λ t. t.now) c.args.typestate) in
    ap (λ x. x || list_any (may_end t) (map (λ b. b.to) (drop (c.loop-branch.branch-index + 1) c.args.branches.now)))
    (sym c.if-may_end.false ∙ c.may_end.ensures)
    ∙ sym (branch_ended t c.args.branches.now c.loop-branch.branch-index c.branch-item.result c.loop-branch-test.true c.branch-item.is)
    ∙ c.loop-branch.invariant

pub returns : goal.returns
returns c =
    let t = typestate_or_end (option_map (λ t. t.now) c.args.typestate) in
    sym (branches_ended t c.args.branches.now c.loop-branch.branch-index c.loop-branch-test.false) ∙ c.loop-branch.invariant
