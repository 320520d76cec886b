use Rattle.std.proofs.Common.{◌+◌, refl}
use Rattle.cls_table.proofs.Tabled.{instance_is}
use Rattle.cls_table.proofs.types.instance.Goals as goal

pub returns : goal.returns
returns c = instance_is c.args.names.now c.args.name.now c.number_of.result (c.number_of.result + 4) c.number_of.ensures.found refl
