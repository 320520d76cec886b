use Rattle.std.proofs.Common.{◌≡◌, map, take}
use Rattle.std.specs.List.{filter}
use Rattle.vm_model.specs.Links.{is_dynamic}
use Rattle.vm_load.specs.Declaring.{declared_of}
use Rattle.vm_load.proofs.outline.own_of.Given as goal

abbrev pub invariant-loop-field : goal.invariant-loop-field
invariant-loop-field l = map declared_of l.own.items ≡ filter is_dynamic (map declared_of (take l.field-index l.fields))
