use Rattle.std.proofs.Common.{◌≡◌, ◌++◌, map, take}
use Rattle.vm_model.specs.Kept.{type_kept}
use Rattle.vm_model.specs.Tests.{Typed}
use Rattle.vm_step.specs.Needing.{wants_of}
use Rattle.vm_step.proofs.calls.add_params.Given as goal

abbrev pub invariant-loop-param : goal.invariant-loop-param
invariant-loop-param l = wants_of l.takes.items ≡ wants_of l.initial.takes.items ++ map Typed (map type_kept (take l.param-index l.params))
