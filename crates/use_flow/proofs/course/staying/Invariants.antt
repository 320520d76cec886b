use Rattle.std.proofs.Common.{◌≡◌, drop}
use Rattle.use_rules.specs.Elements.{marked, none}
use Rattle.use_flow.proofs.course.staying.Given as goal

abbrev pub invariant-loop-slot : goal.invariant-loop-slot
invariant-loop-slot l = marked (drop l.slot-index l.stays) l.set ≡ marked l.stays (none l.width)
