use Rattle.std.specs.List.{IsDistinct}
use Rattle.part_cases.proofs.machine.turns.begun.Goals as goal

pub new-requires-clause-distinct : goal.new-requires-clause-distinct
unfolding IsDistinct
new-requires-clause-distinct c = (tt, tt)
