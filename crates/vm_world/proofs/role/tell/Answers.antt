use Rattle.std.proofs.Common.{ap, refl, sym, ◌∙◌}
use Rattle.vm_world.proofs.Told.{role_tells}
use Rattle.vm_world.proofs.role.tell.Goals as goal

pub returns : goal.returns
returns c =
    rw c.in-Runs.is (role_tells c.args.linked.now c.in-Runs.machine.machine c.tell.new.self.machine c.args.role.now.count _
    c.in-Some.telling refl (rw c.in-Some.is at c.tell.ensures))
