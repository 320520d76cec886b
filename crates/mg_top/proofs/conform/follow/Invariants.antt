use Rattle.std.proofs.Common.{map, take}
use Rattle.scr_tree.specs.Local.{tree_of}
use Rattle.scr_trace.specs.Walking.{HasTaken}
use Rattle.mg_top.proofs.ConformLemmas.{said}
use Rattle.mg_top.proofs.conform.follow.Given as goal

abbrev pub invariant-loop-line : goal.invariant-loop-line
invariant-loop-line l = HasTaken (tree_of l.local) l.walk (map said (take l.line-index l.calls))
