use Rattle.std.proofs.Common.{◌≡◌, map, take}
use Rattle.mg_top.proofs.RoleLemmas.{copied}
use Rattle.mg_top.proofs.run.role_mains.Given as goal

abbrev pub invariant-loop-main : goal.invariant-loop-main
invariant-loop-main l = l.mains.items ≡ map copied (take l.main-index l.classes)
