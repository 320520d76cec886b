use Rattle.std.specs.List.{IsDistinct}
use Rattle.part_cases.proofs.machine.running.no_ports.Goals as goal

pub new-requires : goal.new-requires
unfolding IsDistinct
new-requires c = tt
