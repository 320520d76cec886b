use Rattle.std.proofs.Common.{map, take}
use Rattle.indexmap.specs.IndexMap.{get}
use Rattle.vm_load.specs.Declaring.{declared_of}
use Rattle.vm_load.specs.Firsts.{HasFirsts}
use Rattle.vm_load.proofs.Noted.{key_eq}
use Rattle.vm_load.proofs.numbers.number_all.Given as goal

abbrev pub invariant-loop-index : goal.invariant-loop-index
invariant-loop-index l = HasFirsts (get key_eq l.numbers) (map declared_of (take l.index l.members))
