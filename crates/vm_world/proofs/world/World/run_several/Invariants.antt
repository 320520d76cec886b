use Rattle.std.proofs.Common.{◌+◌, ◌-◌, ◌*◌, ◌≡◌, length}
use Rattle.vm_world.proofs.Asked.{Asked}
use Rattle.vm_world.proofs.Several.{Several}
use Rattle.vm_world.proofs.world.World.run_several.Given as goal

abbrev pub invariant-loop-left : goal.invariant-loop-left
invariant-loop-left l = record {
  several : Several l.fn.self.program l.fn.self.world l.order l.limit l.self l.ahead l.left l.idle l.next;
  asked : Asked l.self l.asked l.version l.left l.limit;
  long : length l.asked ≡ length l.fn.self.world.roles;
}

abbrev pub decreases-loop-left : goal.decreases-loop-left
decreases-loop-left l = l.left * (length l.order + 1) + (length l.order - l.idle)
