use Rattle.std.proofs.Common.{◌≡◌, length}
use Rattle.part_cases.proofs.machine.turns.turns.Given as goal

abbrev pub invariant-loop-number : goal.invariant-loop-number
invariant-loop-number l = length l.world.world.roles ≡ 1
