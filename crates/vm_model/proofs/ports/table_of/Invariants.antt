use Rattle.std.proofs.Common.{◌≡◌, take}
use Rattle.vm_model.proofs.ports.table_of.Given as goal

abbrev pub invariant-loop-role : goal.invariant-loop-role
invariant-loop-role l = l.names ≡ take l.role-index l.roles
