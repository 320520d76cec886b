use Rattle.vm_world.proofs.Standing.{ran_more}
use Rattle.vm_world.proofs.world.World.roles_ran.Goals as goal

pub loop-role-preserved : goal.loop-role-preserved
loop-role-preserved c =
    ran_more c.args.self.now.program c.args.self.now.world c.loop-role.role c.loop-role.ran.items c.push.new.self.items
    (record { instructions = c.steps.result; stand = c.in_ok-stand.stand }) c.in_ok-push.ensures.ok c.steps.ensures c.in_ok-stand.ensures
    c.loop-role.invariant
