use Rattle.std.proofs.Common.{◌≡◌, ℕ, Option, Some, None, refl, sym, ap, ◌∙◌, map, position}
use Rattle.std.specs.Option.{option_map}
use Rattle.std.specs.Str.{bytes_eq}
use Rattle.mg_text.specs.Call.{Name}
use Rattle.jv_core.specs.declared.program.CoreType.{CoreType}
use Rattle.jv_core.specs.declared.program.CoreType.TheVariants as types
use Rattle.jv_tree.specs.View.{enum_of}
use Rattle.jv_types.specs.Tables.{class_entries_of, enum_entries_of}
use Rattle.jv_types.specs.declared.name_table.Table.{Table}
use Rattle.jv_resolve_law.specs.Tables.{class_names, enum_names}
use Rattle.jv_resolve.specs.inner.Seen.{entry_seen, tables_seen}
use Rattle.jv_resolve.proofs.Called.{keys}
use Rattle.jv_resolve.proofs.lookup.type_named.Goals as goal

-- a class, or else an enum
abbrev type_at : Option ℕ → Option ℕ → Option CoreType
type_at o p = elim o [
  | Some c ↦ Some (types.Object c)
  | None ↦ option_map types.Enum p
]

of_class : (o p : Option ℕ) (n : ℕ) → o ≡ Some n → type_at o p ≡ Some (types.Object n)
of_class o p n e = ap (λ x. type_at x p) e

of_enum : (o p r : Option ℕ) → o ≡ None → p ≡ r → type_at o p ≡ option_map types.Enum r
of_enum o p r e h = ap (λ x. type_at x p) e ∙ ap (option_map types.Enum) h

-- where a name stands among those of classes, and of enums
module _ (t : Table) (name : Name) (r : Option ℕ) where
  of_classes : r ≡ position (bytes_eq name) (map (λ e. e.class.now.name) (class_entries_of t)) →
      position (bytes_eq name) (class_names (tables_seen t)) ≡ r
  of_classes e = keys entry_seen (λ e. e.class.name) (λ n e. e) (class_entries_of t) _ refl name ∙ sym e

  of_enums : r ≡ position (bytes_eq name) (map (λ e. e.of.now.name) (enum_entries_of t)) →
      position (bytes_eq name) (enum_names (tables_seen t)) ≡ r
  of_enums e = keys (λ e. enum_of e.of.now) (λ e. e.name) (λ n e. e) (enum_entries_of t) _ refl name ∙ sym e

pub returns-in-Some : goal.returns-in-Some
returns-in-Some c = of_class _ _ c.in-Some.number (of_classes c.args.table.now c.args.name.now _ c.in-Some.ensures)

pub returns-in-Some-enum_number : goal.returns-in-Some-enum_number
returns-in-Some-enum_number c =
    of_enum _ _ (Some c.in-Some-enum_number.number) (of_classes c.args.table.now c.args.name.now _ c.in_default.ensures)
    (of_enums c.args.table.now c.args.name.now _ c.in-Some-enum_number.ensures)

pub returns-in-None : goal.returns-in-None
returns-in-None c =
    of_enum _ _ None (of_classes c.args.table.now c.args.name.now _ c.in_default.ensures)
    (of_enums c.args.table.now c.args.name.now _ c.in-None.ensures)
