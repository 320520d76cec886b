-- What each condition on the declarations answers, by computing.
use Rattle.std.specs.Prelude.{ℕ, List, [], ◌∷◌, map, Option, Some, None, is_some, Bool, true, false, not, ◌&&◌, ◌||◌, if◌then◌else◌}
use Rattle.std.specs.List.{list_any}
use Rattle.std.specs.Str.{bytes_eq}
use Rattle.mg_text.specs.Call.{Name}
use Rattle.mg_text.specs.Interned.{with_text}
use Rattle.mg_read.specs.Culprit.{Culprit, culprit}
use Rattle.ts_tree.specs.Typestate as protocols
use Rattle.ts_tree.specs.declared.parts.TypeName.{TypeName}
use Rattle.ts_tree.specs.declared.parts.TypeName.TheVariants as written
use Rattle.jv_tree.specs.Source.{Expr, Int, Truth, Text, Null, Variable, Member, Field, Method, Class, Enum}
use Rattle.jv_meaning.specs.Program.{class_named, enum_named, method_named}
use Rattle.jv_rules.specs.Program.{Program, offers_in}
use Rattle.jv_rules.specs.Members.{Mention, Written, Made, ClassMember, OfField, OfMethod, members_of, mentions_in_class}
use Rattle.jv_rules.specs.inner.Deciding.{when, first_by, has_constant}
use Rattle.jv_types.specs.declared.demands.Demand.{Demand}
use Rattle.jv_types.specs.declared.demands.Demand.TheVariants as demands
use Rattle.jv_types.specs.inner.Blaming.{is_in}

abbrev pub is_usable_class : Option Class → Bool
is_usable_class None = false
is_usable_class (Some c) = is_some c.typestate

abbrev pub is_usable : Program → Name → Bool
is_usable program name = is_some (enum_named program.files name) || is_usable_class (class_named program.files name)

abbrev pub unknown_class : Program → Mention → Option Culprit
unknown_class program (Written p written.Void) = None
unknown_class program (Written p written.Int) = None
unknown_class program (Written p written.Boolean) = None
unknown_class program (Written p written.Text) = None
unknown_class program (Written p (written.Named name)) = when (not (is_usable program name)) (culprit p name)
unknown_class program (Made p name) = when (not (is_usable_class (class_named program.files name))) (culprit p name)

abbrev pub unknown_in_class : Program → Class → Option Culprit
unknown_in_class program c = first_by (unknown_class program) (mentions_in_class c)

-- a class with the typestate that it names, where that is there
abbrev pub unknown_typestate : Option protocols.Typestate → Class → Option Culprit
unknown_typestate found c = elim c.typestate [ None ↦ None | Some name ↦ when (not (is_some found)) (culprit c.place name) ]

abbrev pub offers_of : Option protocols.Typestate → List protocols.Method
offers_of None = []
offers_of (Some t) = offers_in t.states

abbrev pub is_instance : Option Method → Bool
is_instance None = false
is_instance (Some m) = not m.is_static

abbrev pub missing_method : Class → protocols.Method → Option Culprit
missing_method c d = when (not (is_instance (method_named c d.name))) (culprit c.place d.name)

abbrev pub missing_in_class : Option protocols.Typestate → Class → Option Culprit
missing_in_class found c = first_by (missing_method c) (offers_of found)

abbrev pub type_eq : TypeName → TypeName → Bool
type_eq written.Void written.Void = true
type_eq written.Int written.Int = true
type_eq written.Boolean written.Boolean = true
type_eq written.Text written.Text = true
type_eq (written.Named a) (written.Named b) = bytes_eq a b
type_eq a b = false

abbrev pub types_eq : List TypeName → List TypeName → Bool
types_eq [] [] = true
types_eq (x ∷ xs) (y ∷ ys) = type_eq x y && types_eq xs ys
types_eq xs ys = false

abbrev pub same_signature : Method → protocols.Method → Bool
same_signature m d = type_eq d.result m.result && types_eq d.params (map (λ p. p.ty) m.params)

-- whether each of these names is among others
abbrev pub all_in : List Name → List Name → Bool
all_in names [] = true
all_in names (x ∷ xs) = list_any (bytes_eq x) names && all_in names xs

abbrev pub are_constants : Option Enum → List Name → Bool
are_constants None labels = false
are_constants (Some e) labels = all_in e.constants labels && all_in labels e.constants

abbrev pub are_labels_of : Program → TypeName → List Name → Bool
are_labels_of program written.Void labels = false
are_labels_of program written.Int labels = false
are_labels_of program written.Boolean labels = false
are_labels_of program written.Text labels = false
are_labels_of program (written.Named name) labels = are_constants (enum_named program.files name) labels

abbrev pub other_labels : Program → TypeName → protocols.Target → Bool
other_labels program ty (protocols.One to) = false
other_labels program ty (protocols.ByAnswer branches) = not (are_labels_of program ty (map (λ b. b.label) branches))

-- whether a method breaks what a typestate demands of it
abbrev pub breaks : Program → Demand → Method → protocols.Method → Bool
breaks program demands.OfSignature m d = not (same_signature m d)
breaks program demands.OfLabels m d = other_labels program m.result d.target

abbrev pub broken_method : Program → Demand → List protocols.Method → Method → Option Culprit
broken_method program k offers m =
    when (not m.is_static && list_any (λ d. bytes_eq d.name m.name && breaks program k m d) offers) (culprit m.place m.name)

abbrev pub broken_in_class : Program → Demand → Option protocols.Typestate → Class → Option Culprit
broken_in_class program k found c = first_by (broken_method program k (offers_of found)) c.methods

-- the same by the names of the methods that are broken
abbrev pub breaks_it : Program → Demand → Option Method → protocols.Method → Bool
breaks_it program k None d = false
breaks_it program k (Some m) d = not m.is_static && breaks program k m d

abbrev pub broken_names : Program → Demand → Class → List Name → List protocols.Method → List Name
broken_names program k c met [] = met
broken_names program k c met (d ∷ ds) =
    broken_names program k c (if breaks_it program k (method_named c d.name) d then with_text met d.name else met) ds

abbrev pub broken_by_name : List Name → Method → Option Culprit
broken_by_name met m = when (is_in met m.name) (culprit m.place m.name)

abbrev pub is_int : Expr → Bool
is_int (Int p z) = true
is_int _ = false

abbrev pub is_truth : Expr → Bool
is_truth (Truth p b) = true
is_truth _ = false

abbrev pub is_text : Expr → Bool
is_text (Text p t) = true
is_text _ = false

-- `e.constant` is a constant of the enum of this name
abbrev pub is_member_of : Program → Name → Expr → Name → Bool
is_member_of program name (Variable p of) constant = bytes_eq of name && has_constant (enum_named program.files name) constant
is_member_of program name _ constant = false

abbrev pub is_constant_named : Program → Name → Expr → Bool
is_constant_named program name (Null p) = is_some (class_named program.files name)
is_constant_named program name (Member p e constant) = is_member_of program name e constant
is_constant_named program name _ = false

abbrev pub is_constant_of : Program → TypeName → Expr → Bool
is_constant_of program written.Void e = false
is_constant_of program written.Int e = is_int e
is_constant_of program written.Boolean e = is_truth e
is_constant_of program written.Text e = is_text e
is_constant_of program (written.Named name) e = is_constant_named program name e

abbrev pub needs_value : Program → TypeName → Bool
needs_value program written.Void = false
needs_value program written.Int = false
needs_value program written.Boolean = false
needs_value program written.Text = true
needs_value program (written.Named name) = is_some (enum_named program.files name)

abbrev pub lacks_constant : Program → TypeName → Option Expr → Bool
lacks_constant program ty None = needs_value program ty
lacks_constant program ty (Some e) = not (is_constant_of program ty e)

abbrev pub field_needs_value : Program → Field → Option Culprit
field_needs_value program f = when (lacks_constant program f.ty f.value) (culprit f.place f.name)

abbrev pub fields_need_values : Program → Class → Option Culprit
fields_need_values program c = first_by (field_needs_value program) c.fields

abbrev pub plain_member : Option (List ℕ) → ClassMember → Option Culprit
plain_member (Some t) m = None
plain_member None (OfField f) = Some (culprit f.place [])
plain_member None (OfMethod m) = when (not m.is_static) (culprit m.place [])

abbrev pub plain_in_class : Class → Option Culprit
plain_in_class c = first_by (plain_member c.typestate) (members_of c)
