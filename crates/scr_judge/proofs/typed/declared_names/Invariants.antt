use Rattle.std.proofs.Common.{take, map}
use Rattle.std.specs.HashSet.{contains_text}
use Rattle.scr_judge.specs.inner.Listed.{alias_of}
use Rattle.scr_judge.proofs.Duplicates.{HasNames}
use Rattle.scr_judge.proofs.typed.declared_names.Given as goal

abbrev pub invariant-loop-declaration : goal.invariant-loop-declaration
invariant-loop-declaration l = HasNames (contains_text l.names) (map alias_of (take l.declaration-index l.types))
