use Rattle.vm_world.proofs.Standing.{peer_within}
use Rattle.vm_world.proofs.world.World.stand.Goals as goal

pub waiting-requires : goal.waiting-requires
waiting-requires c =
    peer_within c.args.self.now.program c.args.self.now.world c.args.role c.args.mains.now c.waits.result c.requires.names c.waits.ensures
