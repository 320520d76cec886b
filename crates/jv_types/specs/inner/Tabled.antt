-- What the entries of the tables are of.
use Rattle.std.specs.Prelude.{◌≡◌, List, map}
use Rattle.jv_tree.specs.Source.{Class, Enum}
use Rattle.jv_tree.specs.View.{class_of, enum_of}
use Rattle.jv_rules.specs.Program.{Program, typestate_of}
use Rattle.jv_types.specs.declared.entry.ClassEntry.{ClassEntry}
use Rattle.jv_types.specs.declared.entry.EnumEntry.{EnumEntry}
use Rattle.jv_types.specs.inner.Kept.{typestate_in}

abbrev pub class_in : ClassEntry → Class
class_in e = class_of e.class.now

abbrev pub enum_in : EnumEntry → Enum
enum_in e = enum_of e.of.now

-- an entry has the typestate of its class
pub record IsEntryOf (program : Program) (e : ClassEntry) : Type 0 where
  pub follows : typestate_in e ≡ typestate_of program (class_in e)

pub record AreEntriesOf (program : Program) (es : List ClassEntry) : Type 0 where
  pub follow : map typestate_in es ≡ map (λ e. typestate_of program (class_in e)) es
