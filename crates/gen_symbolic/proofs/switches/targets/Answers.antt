use Rattle.std.proofs.Common.{length, map}
use Rattle.jv_core.specs.View.{group_of, groups_of}
use Rattle.jv_core.specs.Numbering.{numbers_from}
use Rattle.gen_symbolic.specs.inner.Drafting.{target_by}
use Rattle.gen_symbolic.proofs.Loops.{mapped_more}
use Rattle.gen_symbolic.proofs.switches.targets.Goals as goal

pub loop-position-preserved : goal.loop-position-preserved
loop-position-preserved c =
    mapped_more (target_by (groups_of (map group_of c.args.groups.now)) (numbers_from c.args.first (length c.args.groups.now))
    c.args.default)
    c.loop-position.position _ c.loop-position.targets.items _ c.loop-position.invariant c.in_ok-push.ensures.ok c.in_ok-label.ensures
