use Rattle.std.proofs.Common.{◌∙◌, ◌+◌, Some, ap, refl}
use Rattle.ts_tree.specs.Calls.{led_by}
use Rattle.ts_tree.specs.View.{target_of}
use Rattle.ts_refine.specs.inner.Keeping.{found_by, gone}
use Rattle.ts_refine.proofs.Keeping.{step_turn}
use Rattle.ts_refine.proofs.search.Search.meet_branches.Goals as goal

pub loop-branch-preserved : goal.loop-branch-preserved
loop-branch-preserved c =
    let t = step_turn c.loop-branch.self c.meet.new.self c.args.parent c.args.method.now (target_of c.args.target.now) c.args.branches.now
    c.loop-branch.branch-index c.loop-branch.place c.branch-item.result c.branch-item.result.label c.led_by-from.result
    c.loop-branch.invariant.within c.loop-branch-test.true c.branch-item.is c.requires.own c.loop-branch.invariant.counted refl
    (c.led_by-from.ensures ∙ ap (λ l. led_by (target_of c.args.target.now) (Some l)) c.as_str.ensures) c.in_ok-meet.ensures in
    record {
      within = t.0.within;
      counted = ap (λ n. n + 1) c.loop-branch.invariant.counted;
      rest = t.0.rest ∙ ap (gone (found_by c.loop-branch.self) c.args.parent) t.1 ∙ c.loop-branch.invariant.rest;
    }
