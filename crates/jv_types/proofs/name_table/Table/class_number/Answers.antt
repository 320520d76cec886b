use Rattle.std.proofs.Common.{ap, ◌∙◌, position}
use Rattle.std.specs.Str.{bytes_eq}
use Rattle.jv_types.proofs.Entries.{class_keys}
use Rattle.jv_types.proofs.name_table.Table.class_number.Goals as goal

pub returns : goal.returns
returns c = c.place_of.ensures ∙ ap (position (bytes_eq c.args.name.now)) (class_keys c.args.self.now.tabled)
