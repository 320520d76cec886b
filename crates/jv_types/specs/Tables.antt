-- The program that a table is of, and what stands in it.
use Rattle.std.specs.Prelude.{List}
use Rattle.jv_rules.specs.Program.{Program}
use Rattle.jv_types.specs.declared.entry.ClassEntry.{ClassEntry}
use Rattle.jv_types.specs.declared.entry.EnumEntry.{EnumEntry}
use Rattle.jv_types.specs.declared.name_table.Table.{Table}
use Rattle.jv_types.specs.View.{program_of}

abbrev pub program_in : Table → Program
program_in t = program_of t.files.now t.typestates.now

-- the entries of its classes, and of its enums, in file and text order

abbrev pub class_entries_of : Table → List ClassEntry
class_entries_of t = t.classes.items

abbrev pub enum_entries_of : Table → List EnumEntry
enum_entries_of t = t.enums.items
