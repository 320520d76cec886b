-- What the tables of a program hold: each entry stands at its number, and names lead to what has them.
use Rattle.std.proofs.Common.{◌≡◌, ℕ, zero, suc, ◌+◌, List, [], ◌∷◌, ◌++◌, map, length, Option, Some, None, option_map, position, slice_get}
use Rattle.std.proofs.Common.{refl, sym, ap, ◌∙◌, subst, arith}
use Rattle.std.specs.Prelude.{find}
use Rattle.std.specs.Str.{bytes_eq}
use Rattle.mg_text.specs.Call.{Name}
use Rattle.ts_tree.specs.Typestate.{Typestate}
use Rattle.ts_tree.specs.declared.parts.TypeName.{TypeName}
use Rattle.ts_tree.specs.declared.parts.TypeName.TheVariants as written
use Rattle.jv_tree.specs.Source
use Rattle.jv_meaning.specs.Program.{classes_of, enums_of, class_named, method_named, field_named, typestate_named}
use Rattle.jv_rules.specs.Program.{Program}
use Rattle.jv_core.specs.declared.program.CoreType.{CoreType}
use Rattle.jv_core.specs.declared.program.CoreType.TheVariants as types
use Rattle.jv_core.specs.Tree as Core
use Rattle.jv_names.specs.Resolves.{Owned, methods_in, methods_of, numbered_from, IsClass, IsEnum, IsMethod, IsType, IsProtocol, kind_of}
use Rattle.jv_names.specs.Resolves as is
use Rattle.jv_names.proofs.Tables.{some_is, none_some}
use Rattle.jv_names.proofs.Lookups.{owned_by}
use Rattle.jv_resolve_law.specs.Tables.{◌>>=◌, Entry, Tables, Callee, Placed, Numbered, class_names, enum_names, class_called, enum_called}
use Rattle.jv_resolve_law.specs.Tables.{method_called, field_called, type_called, type_meant, followed, entries_from, tables_of}
use Rattle.jv_resolve_law.proofs.Steps.{bound, mapped, named, not_named}

-- a typestate of this number is the one that a class names
pub record Follows (typestates : List Typestate) (name : Name) (t : ℕ) : Type 0 where
  pub typestate : Typestate
  pub at : slice_get typestates t ≡ Some typestate
  pub named : typestate_named typestates name ≡ Some typestate

pub follows : (typestates : List Typestate) (name : Name) (t : ℕ) → position (bytes_eq name) (map (λ t. t.name) typestates) ≡ Some t →
    Follows typestates name t
follows typestates name t e =
    let w = named (λ (t : Typestate). t.name) typestates name t e in
    record { typestate = w.item; at = w.at; named = w.first }

-- the entry of a class
pub record IsEntry (program : Program) (n : ℕ) (e : Entry) : Type 0 where
  pub number : e.number ≡ n
  pub at : slice_get (classes_of program.files) n ≡ Some e.class
  pub follows : followed program.typestates e.class.typestate ≡ Some e.typestate
  pub methods : (j : ℕ) (m : Source.Method) → slice_get e.class.methods j ≡ Some m →
      slice_get (methods_of program) (e.first_method + j) ≡ Some (owned_by e.number e.class m)

pub record IsTabled (program : Program) (tables : Tables) : Type 0 where
  pub classes : map (λ e. e.class) tables.classes ≡ classes_of program.files
  pub enums : tables.enums ≡ enums_of program.files
  pub typestates : tables.typestates ≡ program.typestates
  pub entries : entries_from program.typestates 0 0 (classes_of program.files) ≡ Some tables.classes
  pub entry : (n : ℕ) (e : Entry) → slice_get tables.classes n ≡ Some e → IsEntry program n e

-- Of lists one behind another.

front : (g : Source.Method → Owned) (ms : List Source.Method) (rest : List Owned) (j : ℕ) (m : Source.Method) →
    slice_get ms j ≡ Some m → slice_get (map g ms ++ rest) j ≡ Some (g m)
front g [] rest j m e = absurd (none_some e)
front g (x ∷ ms) rest zero m e = ap (λ x. Some (g x)) (some_is e)
front g (x ∷ ms) rest (suc j) m e = front g ms rest j m e

add-one : (a b : ℕ) → suc a + b ≡ suc (a + b)
add-one a b = omega arith

further : (g : Source.Method → Owned) (ms : List Source.Method) (rest : List Owned) (k : ℕ) →
    slice_get (map g ms ++ rest) (length ms + k) ≡ slice_get rest k
further g [] rest k = ap (slice_get rest) (omega arith)
further g (x ∷ ms) rest k = ap (slice_get (g x ∷ (map g ms ++ rest))) (add-one (length ms) k) ∙ further g ms rest k

-- Entries, from a number on.

pub record EntryFrom (typestates : List Typestate) (n m : ℕ) (cs : List Source.Class) (i : ℕ) (e : Entry) : Type 0 where
  pub number : e.number ≡ n + i
  pub at : slice_get cs i ≡ Some e.class
  pub follows : followed typestates e.class.typestate ≡ Some e.typestate
  pub methods : (j : ℕ) (x : Source.Method) → slice_get e.class.methods j ≡ Some x →
      (k : ℕ) × (e.first_method + j ≡ m + k) × (slice_get (methods_in (numbered_from n cs)) k ≡ Some (owned_by e.number e.class x))

-- the first of some entries, and those behind it
pub record FirstEntry (typestates : List Typestate) (n m : ℕ) (c : Source.Class) (cs : List Source.Class) (es : List Entry) : Type 0 where
  pub typestate : Option ℕ
  pub follows : followed typestates c.typestate ≡ Some typestate
  pub rest : List Entry
  pub more : entries_from typestates (suc n) (m + length c.methods) cs ≡ Some rest
  pub are : record { class = c; number = n; first_method = m; typestate = typestate } ∷ rest ≡ es

pub first_entry : (typestates : List Typestate) (n m : ℕ) (c : Source.Class) (cs : List Source.Class) (es : List Entry) →
    entries_from typestates n m (c ∷ cs) ≡ Some es → FirstEntry typestates n m c cs es
first_entry typestates n m c cs es e =
    let a = bound (followed typestates c.typestate) _ es e in
    let b = bound (entries_from typestates (suc n) (m + length c.methods) cs) _ es a.gives in
    record { typestate = a.item; follows = a.is; rest = b.item; more = b.is; are = some_is b.gives }

entry_from : (typestates : List Typestate) (n m : ℕ) (cs : List Source.Class) (es : List Entry) →
    entries_from typestates n m cs ≡ Some es →
    (i : ℕ) (e : Entry) → slice_get es i ≡ Some e → EntryFrom typestates n m cs i e
entry_from typestates n m [] es given i e at = absurd
    (none_some (subst (λ (es : List Entry). slice_get es i ≡ Some e) (sym (some_is given)) at))
entry_from typestates n m (c ∷ cs) es given i e at =
    let f = first_entry typestates n m c cs es given in
    go f i (subst (λ es. slice_get es i ≡ Some e) (sym f.are) at)
    (λ i at. entry_from typestates (suc n) (m + length c.methods) cs f.rest f.more i e at)
  where
    here : (f : FirstEntry typestates n m c cs es) →
        EntryFrom typestates n m (c ∷ cs) zero (record { class = c; number = n; first_method = m; typestate = f.typestate })
    here f = record {
      number = omega arith;
      at = refl;
      follows = f.follows;
      methods = λ j x h. (j, refl, front (owned_by n c) c.methods (methods_in (numbered_from (suc n) cs)) j x h);
    }

    there : (i : ℕ) → EntryFrom typestates (suc n) (m + length c.methods) cs i e → EntryFrom typestates n m (c ∷ cs) (suc i) e
    there i w = record {
      number = w.number ∙ omega arith;
      at = w.at;
      follows = w.follows;
      methods = λ j x h.
          let q = w.methods j x h in
          (length c.methods + q.0, q.1 ∙ omega arith, further (owned_by n c) c.methods (methods_in (numbered_from (suc n) cs)) q.0 ∙ q.2);
    }

    go : (f : FirstEntry typestates n m c cs es) (i : ℕ) →
        slice_get (record { class = c; number = n; first_method = m; typestate = f.typestate } ∷ f.rest) i ≡ Some e →
        ((i : ℕ) → slice_get f.rest i ≡ Some e → EntryFrom typestates (suc n) (m + length c.methods) cs i e) →
        EntryFrom typestates n m (c ∷ cs) i e
    go f zero at later = subst (EntryFrom typestates n m (c ∷ cs) zero) (some_is at) (here f)
    go f (suc i) at later = there i (later i at)

classes_from : (typestates : List Typestate) (n m : ℕ) (cs : List Source.Class) (es : List Entry) →
    entries_from typestates n m cs ≡ Some es → map (λ e. e.class) es ≡ cs
classes_from typestates n m [] es given = ap (map (λ (e : Entry). e.class)) (sym (some_is given))
classes_from typestates n m (c ∷ cs) es given =
    let f = first_entry typestates n m c cs es given in
    ap (map (λ (e : Entry). e.class)) (sym f.are) ∙
    ap (λ ks. c ∷ ks) (classes_from typestates (suc n) (m + length c.methods) cs f.rest f.more)

no_offset : (program : Program) (n : ℕ) (e : Entry) → EntryFrom program.typestates 0 0 (classes_of program.files) n e →
    IsEntry program n e
no_offset program n e w = record {
  number = w.number ∙ omega arith;
  at = w.at;
  follows = w.follows;
  methods = λ j x h.
      let q = w.methods j x h in
      ap (slice_get (methods_of program)) (q.1 ∙ omega arith) ∙ q.2;
}

pub tabled : (program : Program) (tables : Tables) → tables_of program ≡ Some tables → IsTabled program tables
tabled program tables e =
    let b = bound (entries_from program.typestates 0 0 (classes_of program.files)) _ tables e in
    subst (IsTabled program) (some_is b.gives) (record {
      classes = classes_from program.typestates 0 0 (classes_of program.files) b.item b.is;
      enums = refl;
      typestates = refl;
      entries = b.is;
      entry = λ n e at. no_offset program n e (entry_from program.typestates 0 0 (classes_of program.files) b.item b.is n e at);
    })

-- Lookups.

module _ (program : Program) (core : Core.Program) (tables : Tables) (t : IsTabled program tables) where
  class_texts : class_names tables ≡ map (λ c. c.name) (classes_of program.files)
  class_texts = names_same tables.classes ∙ ap (map (λ (c : Source.Class). c.name)) t.classes
    where
      names_same : (es : List Entry) → map (λ e. e.class.name) es ≡ map (λ c. c.name) (map (λ e. e.class) es)
      names_same [] = refl
      names_same (e ∷ es) = ap (λ ns. e.class.name ∷ ns) (names_same es)

  class_placed : (name : Name) (c : ℕ) → position (bytes_eq name) (class_names tables) ≡ Some c → IsClass program core name c
  class_placed name c e =
      let w = named (λ (c : Source.Class). c.name) (classes_of program.files) name c
      (ap (position (bytes_eq name)) (sym class_texts) ∙ e) in
      record { class = w.item; named = w.first; at = w.at }

  pub no_class : (name : Name) → position (bytes_eq name) (class_names tables) ≡ None → class_named program.files name ≡ None
  no_class name e = not_named (λ (c : Source.Class). c.name) (classes_of program.files) name
      (ap (position (bytes_eq name)) (sym class_texts) ∙ e)

  -- an enum that was found at a place
  pub record EnumAt (name : Name) (n : ℕ) : Type 0 where
    pub enum : Source.Enum
    pub is : IsEnum program core name n enum
    pub at : slice_get tables.enums n ≡ Some enum

  enum_placed : (name : Name) (n : ℕ) → position (bytes_eq name) (enum_names tables) ≡ Some n → EnumAt name n
  enum_placed name n e =
      let w = named (λ (e : Source.Enum). e.name) tables.enums name n e in
      record {
        enum = w.item;
        is = record {
          named = subst (λ es. find (λ (e : Source.Enum). bytes_eq e.name name) es ≡ Some w.item) t.enums w.first;
          at = subst (λ es. slice_get es n ≡ Some w.item) t.enums w.at;
        };
        at = w.at;
      }

  -- a class that is called by its name
  pub record ClassCalled (name : Name) (e : Entry) : Type 0 where
    pub is : IsClass program core name e.number
    pub class_is : is.class ≡ e.class
    pub named : class_named program.files name ≡ Some e.class
    pub at : slice_get tables.classes e.number ≡ Some e
    pub entry : IsEntry program e.number e

  pub class_called_is : (name : Name) (e : Entry) → class_called tables name ≡ Some e → ClassCalled name e
  class_called_is name e given =
      let b = bound (position (bytes_eq name) (class_names tables)) _ e given in
      let c = class_placed name b.item b.is in
      let w = t.entry b.item e b.gives in
      let same : c.class ≡ e.class = some_is (sym c.at ∙ w.at) in
      record {
        is = record { class = e.class; named = c.named ∙ ap Some same; at = ap (slice_get (classes_of program.files)) w.number ∙ w.at };
        class_is = refl;
        named = c.named ∙ ap Some same;
        at = ap (slice_get tables.classes) w.number ∙ b.gives;
        entry = subst (λ n. IsEntry program n e) (sym w.number) w;
      }

  pub enum_called_is : (name : Name) (k : Numbered) → enum_called tables name ≡ Some k → IsEnum program core name k.number k.enum
  enum_called_is name k given =
      let b = bound (position (bytes_eq name) (enum_names tables)) _ k given in
      let c = bound (slice_get tables.enums b.item) _ k b.gives in
      let w = enum_placed name b.item b.is in
      let same : w.enum ≡ c.item = some_is (sym w.at ∙ c.is) in
      subst (λ (k : Numbered). IsEnum program core name k.number k.enum) (some_is c.gives)
      (subst (IsEnum program core name b.item) same w.is)

  type_called_is : (name : Name) (ty : CoreType) → type_called tables name ≡ Some ty → IsType program core (written.Named name) ty
  type_called_is name ty given = go (position (bytes_eq name) (class_names tables)) refl given
    where
      go : (o : Option ℕ) → position (bytes_eq name) (class_names tables) ≡ o →
          elim o [ Some c ↦ Some (types.Object c) | None ↦ option_map types.Enum (position (bytes_eq name) (enum_names tables)) ] ≡ Some
          ty →
          IsType program core (written.Named name) ty
      go (Some c) at e = subst (IsType program core (written.Named name)) (some_is e) (is.class_type (class_placed name c at))
      go None at e =
          let m = mapped types.Enum (position (bytes_eq name) (enum_names tables)) ty e in
          subst (IsType program core (written.Named name)) m.gives (is.enum_type (no_class name at) (enum_placed name m.item m.is).is)

  pub type_meant_is : (ty : TypeName) (u : CoreType) → type_meant tables ty ≡ Some u → IsType program core ty u
  type_meant_is written.Void u e = subst (IsType program core written.Void) (some_is e) is.void_type
  type_meant_is written.Int u e = subst (IsType program core written.Int) (some_is e) is.int_type
  type_meant_is written.Boolean u e = subst (IsType program core written.Boolean) (some_is e) is.boolean_type
  type_meant_is written.Text u e = subst (IsType program core written.Text) (some_is e) is.text_type
  type_meant_is (written.Named name) u e = type_called_is name u e

-- a method that is called by its name
pub record MethodCalled (program : Program) (core : Core.Program) (e : Entry) (f : Name) (c : Callee) : Type 0 where
  pub named : method_named e.class f ≡ Some c.method
  pub at : slice_get (methods_of program) c.number ≡ Some (owned_by e.number e.class c.method)

pub method_called_is : (program : Program) (core : Core.Program) (n : ℕ) (e : Entry) → IsEntry program n e → (f : Name) (c : Callee) →
    method_called e f ≡ Some c → MethodCalled program core e f c
method_called_is program core n e entry f c given =
    let b = bound (position (bytes_eq f) (map (λ m. m.name) e.class.methods)) _ c given in
    let d = bound (slice_get e.class.methods b.item) _ c b.gives in
    let w = named (λ (m : Source.Method). m.name) e.class.methods f b.item b.is in
    let same : w.item ≡ d.item = some_is (sym w.at ∙ d.is) in
    subst (MethodCalled program core e f) (some_is d.gives)
    (record { named = w.first ∙ ap Some same; at = entry.methods b.item d.item d.is })

pub is_method : (program : Program) (core : Core.Program) (class : Name) (e : Entry) (f : Name) (c : Callee) →
    class_named program.files class ≡ Some e.class →
    MethodCalled program core e f c → IsMethod program core class f c.number c.method
is_method program core class e f c owner w = record {
  owner = record { number = e.number; class = e.class };
  owner_named = owner;
  named = w.named;
  at = w.at;
}

-- a field that is called by its name
pub record FieldCalled (e : Entry) (name : Name) (f : Placed) : Type 0 where
  pub named : field_named e.class name ≡ Some f.field
  pub at : slice_get e.class.fields f.place ≡ Some f.field

pub field_called_is : (e : Entry) (name : Name) (f : Placed) → field_called e name ≡ Some f → FieldCalled e name f
field_called_is e name f given =
    let b = bound (position (bytes_eq name) (map (λ f. f.name) e.class.fields)) _ f given in
    let d = bound (slice_get e.class.fields b.item) _ f b.gives in
    let w = named (λ (f : Source.Field). f.name) e.class.fields name b.item b.is in
    let same : w.item ≡ d.item = some_is (sym w.at ∙ d.is) in
    subst (FieldCalled e name) (some_is d.gives) (record { named = w.first ∙ ap Some same; at = d.is })

none_of : {A B : Type 0} (o : Option A) (f : A → B) → (o >>= λ a. Some (f a)) ≡ None → o ≡ None
none_of None f e = refl
none_of (Some a) f e = absurd (none_some (sym e))

abbrev with_place : ℕ → Source.Field → Placed
with_place n f = record { field = f; place = n }

-- a field that isn't there
pub no_field : (program : Program) (core : Core.Program) (e : Entry) (name : Name) → field_called e name ≡ None →
    field_named e.class name ≡ None
no_field program core e name given = go (position (bytes_eq name) (map (λ f. f.name) e.class.fields)) refl given
  where
    go : (o : Option ℕ) → position (bytes_eq name) (map (λ f. f.name) e.class.fields) ≡ o →
        (o >>= λ n. slice_get e.class.fields n >>= λ f. Some (with_place n f)) ≡ None → field_named e.class name ≡ None
    go None at h = not_named (λ (f : Source.Field). f.name) e.class.fields name at
    go (Some n) at h =
        let w = named (λ (f : Source.Field). f.name) e.class.fields name n at in
        absurd (none_some (sym (none_of (slice_get e.class.fields n) (with_place n) h) ∙ w.at))
