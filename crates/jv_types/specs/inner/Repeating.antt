-- Finding who repeats a name, from the front on.
use Rattle.std.specs.Prelude.{ℕ, List, [], ◌∷◌, ◌++◌, Option, Some, None, Bool, if◌then◌else◌}
use Rattle.std.specs.List.{list_any}
use Rattle.std.specs.Str.{bytes_eq}
use Rattle.mg_text.specs.Call.{Name}
use Rattle.mg_text.specs.declared.place.Place.{Place}
use Rattle.mg_text.specs.Places.{start_of}
use Rattle.mg_read.specs.Culprit.{Culprit, culprit}
use Rattle.ts_tree.specs.Typestate as protocols
use Rattle.jv_tree.specs.Source.{Decl, ClassDecl, EnumDecl}
use Rattle.jv_tree.specs.View.{field_of, method_of}
use Rattle.jv_rules.specs.Members.{ClassMember, OfField, OfMethod, members_of, Entry, decl_entry}
use Rattle.jv_rules.specs.Declarations.{built_in_classes}
use Rattle.jv_types.specs.declared.merged.Member.{Member}
use Rattle.jv_types.specs.declared.merged.Member.TheVariants as kept
use Rattle.jv_types.specs.inner.Blaming.{is_in}

abbrev pub member_seen : Member → ClassMember
member_seen (kept.Field f) = OfField (field_of f.now)
member_seen (kept.Method m) = OfMethod (method_of m.now)

abbrev pub is_built_in : Name → Bool
is_built_in name = list_any (bytes_eq name) built_in_classes

abbrev pub blamed_entry : Entry → Culprit
blamed_entry e = culprit e.place e.name

-- the first class or enum whose name an earlier one or a class that is built in has
abbrev pub repeat_type : List Name → List Decl → Option Culprit
repeat_type met [] = None
repeat_type met (d ∷ ds) =
    if is_built_in (decl_entry d).name then Some (blamed_entry (decl_entry d))
    else if is_in met (decl_entry d).name then Some (blamed_entry (decl_entry d))
    else repeat_type (met ++ (decl_entry d).name ∷ []) ds

-- the first typestate whose name an earlier one has
abbrev pub repeat_typestate : List Name → List protocols.Typestate → List ℕ → Option Culprit
repeat_typestate met [] files = None
repeat_typestate met (t ∷ ts) [] = None
repeat_typestate met (t ∷ ts) (file ∷ files) =
    if is_in met t.name then Some (culprit (start_of file) t.name) else repeat_typestate (met ++ t.name ∷ []) ts files

-- the first member whose name an earlier one of its kind has
abbrev pub repeat_member : (fields methods : List Name) → List ClassMember → Option Culprit
repeat_member fields methods [] = None
repeat_member fields methods (OfField f ∷ more) =
    if is_in fields f.name then Some (culprit f.place f.name) else repeat_member (fields ++ f.name ∷ []) methods more
repeat_member fields methods (OfMethod m ∷ more) =
    if is_in methods m.name then Some (culprit m.place m.name) else repeat_member fields (methods ++ m.name ∷ []) more

abbrev pub repeat_constant : Place → List Name → List Name → Option Culprit
repeat_constant place met [] = None
repeat_constant place met (c ∷ cs) = if is_in met c then Some (culprit place c) else repeat_constant place (met ++ c ∷ []) cs

abbrev pub repeat_in : Decl → Option Culprit
repeat_in (ClassDecl c) = repeat_member [] [] (members_of c)
repeat_in (EnumDecl e) = repeat_constant e.place [] e.constants
