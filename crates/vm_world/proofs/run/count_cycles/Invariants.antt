use Rattle.std.proofs.Common.{◌≡◌, ◌-◌, ◌*◌, ℕ, length, get_or, drop}
use Rattle.vm_world.proofs.Cycles.{times}
use Rattle.vm_world.proofs.run.count_cycles.Given as goal

abbrev pub invariant-loop-role : goal.invariant-loop-role
invariant-loop-role l = record {
  long : length l.ahead ≡ length l.initial.ahead;
  each : (r : ℕ) → get_or l.ahead r 0 - l.cycles * times r (drop l.role-index l.order)
      ≡ get_or l.initial.ahead r 0 - l.cycles * times r l.order;
}
