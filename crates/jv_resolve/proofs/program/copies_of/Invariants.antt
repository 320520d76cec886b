use Rattle.std.proofs.Common.{◌≡◌, take}
use Rattle.jv_resolve.proofs.program.copies_of.Given as goal

abbrev pub invariant-loop-typestate : goal.invariant-loop-typestate
invariant-loop-typestate l = l.copies.items ≡ take l.typestate-index l.typestates
