use Rattle.std.proofs.Common.{◌≡◌, ◌+ℤ◌, pos, map, take}
use Rattle.vm_model.specs.Links.{started}
use Rattle.vm_load.proofs.code.targets.Given as goal

abbrev pub invariant-loop-offset : goal.invariant-loop-offset
invariant-loop-offset l = l.all.items ≡ map (λ d. started l.starts (pos l.place +ℤ d)) (take l.offset-index l.offsets)
