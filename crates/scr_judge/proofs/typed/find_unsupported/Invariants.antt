use Rattle.std.proofs.Common.{◌≡◌, drop}
use Rattle.scr_judge.specs.inner.Listed.{first_among, unsupported}
use Rattle.scr_judge.proofs.typed.find_unsupported.Given as goal

abbrev pub invariant-loop-declaration : goal.invariant-loop-declaration
invariant-loop-declaration l = first_among unsupported l.types ≡ first_among unsupported (drop l.declaration-index l.types)
