use Rattle.std.proofs.Common.{◌≡◌, take}
use Rattle.mg_top.proofs.top.first_last.Given as goal

abbrev pub invariant-loop-other : goal.invariant-loop-other
invariant-loop-other l = l.names.items ≡ take l.other-index l.others
