use Rattle.std.proofs.Common.{arith}
use Rattle.std.proofs.lemmas.Grind.{common_steps}
use Rattle.cls_tree.specs.View.{member_of}
use Rattle.vm_model.specs.Links.{declared}
use Rattle.vm_load.proofs.Maps.{mapped_twice}
use Rattle.vm_load.proofs.outline.all_declared.Goals as goal

pub returns : goal.returns
returns c = mapped_twice (declared c.args.pool.now) member_of c.args.members.now _ c.loop-member.member-index c.loop-member.invariant
    c.loop-member-test.false

pub loop-member-preserved : goal.loop-member-preserved
loop-member-preserved c = grind (arith, common_steps)
