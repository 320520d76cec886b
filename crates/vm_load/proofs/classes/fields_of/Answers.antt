use Rattle.std.proofs.Common.{arith}
use Rattle.std.proofs.lemmas.Grind.{common_steps}
use Rattle.vm_model.specs.Links.{field_made}
use Rattle.vm_load.specs.Declaring.{declared_of}
use Rattle.vm_load.proofs.Maps.{mapped_twice}
use Rattle.vm_load.proofs.classes.fields_of.Goals as goal

pub returns : goal.returns
returns c = mapped_twice field_made declared_of c.args.own.now _ c.loop-field.field-index c.loop-field.invariant c.loop-field-test.false

pub loop-field-preserved : goal.loop-field-preserved
loop-field-preserved c = grind (arith, common_steps)
