use Rattle.std.proofs.Common.{map, ap, ◌∙◌}
use Rattle.jv_types.specs.inner.Tabled.{class_in}
use Rattle.jv_types.proofs.Entries.{all_classes_in}
use Rattle.jv_types.proofs.name_table.Table.classes.Goals as goal

pub returns-clause-classes : goal.returns-clause-classes
returns-clause-classes c = ap (map class_in) c.as_slice.ensures.value ∙ all_classes_in c.args.self.now.tabled
