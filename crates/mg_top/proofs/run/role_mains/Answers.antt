use Rattle.mg_top.proofs.RoleLemmas.{copied_more, mains_copied}
use Rattle.mg_top.proofs.run.role_mains.Goals as goal

pub loop-main-preserved : goal.loop-main-preserved
loop-main-preserved c =
    copied_more c.args.classes.now c.loop-main.main-index c.main-item.result c.in_ok-role.role c.in_ok-class.class c.loop-main.mains.items
    c.push.new.self.items c.loop-main-test.true c.main-item.is c.in_ok-role.ensures c.in_ok-class.ensures c.loop-main.invariant
    c.in_ok-push.ensures.ok

pub returns : goal.returns
returns c =
    mains_copied c.loop-main.mains.items c.args.classes.now c.loop-main.main-index c.loop-main.invariant c.loop-main-test.false
