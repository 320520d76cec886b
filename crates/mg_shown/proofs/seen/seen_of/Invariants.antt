use Rattle.std.proofs.Common.{map, take}
use Rattle.indexmap.specs.IndexMap.{get}
use Rattle.use_flow.specs.View.{sight_of}
use Rattle.mg_shown.specs.inner.Seeing.{AreSeen}
use Rattle.mg_shown.proofs.Seeing.{key_eq}
use Rattle.mg_shown.proofs.seen.seen_of.Given as goal

abbrev pub invariant-loop-sight : goal.invariant-loop-sight
invariant-loop-sight l = AreSeen (map sight_of (take l.sight-index l.sights)) (get key_eq l.seen)
