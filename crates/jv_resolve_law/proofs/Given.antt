-- Types that are given, variables that are found, and what stands where code stands.
use Rattle.std.proofs.Common.{◌≡◌, ℕ, ◌<◌, Bool, true, false, cond, true≢false, List, [], ◌∷◌, map, length, Option, Some, None}
use Rattle.std.proofs.Common.{option_map, position, nat_lt, slice_get, refl, sym, ap, ◌∙◌, subst, arith}
use Rattle.std.specs.Prelude.{find, if◌then◌else◌}
use Rattle.std.specs.List.{list_any, position_or_len}
use Rattle.std.specs.Str.{bytes_eq}
use Rattle.std.proofs.lemmas.Slice.Eq.{bytes_eq-Decides}
use Rattle.mg_text.specs.Call.{Name}
use Rattle.mg_text.specs.declared.place.Place.{Place}
use Rattle.mg_text.proofs.Numbered.{list_any-position}
use Rattle.ts_tree.specs.declared.parts.TypeName.{TypeName}
use Rattle.jv_tree.specs.Source
use Rattle.jv_meaning.specs.Program.{class_named, field_named}
use Rattle.jv_rules.specs.Program.{Program}
use Rattle.jv_rules.specs.Types.{ValueType, NoValue, IntType, BooleanType, TextType, EnumType, ClassType, NullType, meant}
use Rattle.jv_rules.specs.Scope.{Scope, Declared, declared_named, local_named, own_field, field_type, variable_type}
use Rattle.jv_core.specs.declared.tree.Var.TheVariants as vars
use Rattle.jv_core.specs.declared.program.CoreType.{CoreType}
use Rattle.jv_core.specs.declared.program.CoreType.TheVariants as types
use Rattle.jv_core.specs.Tree as Core
use Rattle.jv_core.specs.Lookup as core_lookup
use Rattle.jv_core.specs.Meaning.{result_of}
use Rattle.jv_names.specs.Resolves.{Aligned, Numbers, HasSlot, IsClass, IsEnum, IsType, IsOwnField, IsVar, Owned, methods_of}
use Rattle.jv_names.specs.Resolves as is
use Rattle.jv_names.proofs.Tables.{some_is, none_some}
use Rattle.jv_resolve_law.specs.Tables.{◌>>=◌, Tables, Placed, field_called, type_meant}
use Rattle.jv_resolve_law.specs.Expressions.{Given, OfNull, Of, Known, Standing, Found, known_named, own_found, found}
use Rattle.jv_resolve_law.proofs.Steps.{bound}
use Rattle.jv_resolve_law.proofs.Tabled.{IsEntry, IsTabled, type_meant_is, field_called_is, no_field}

module _ (program : Program) (core : Core.Program) where
  -- the type of a value, and how it is kept
  pub data IsGiven : ValueType → Given → Type 0 where
    no_value : IsGiven NoValue (Of types.Void)
    int_given : IsGiven IntType (Of types.Int)
    boolean_given : IsGiven BooleanType (Of types.Boolean)
    text_given : IsGiven TextType (Of types.Text)
    null_given : IsGiven NullType OfNull
    class_given : {name : Name} {c : ℕ} → IsClass program core name c → IsGiven (ClassType name) (Of (types.Object c))
    enum_given : {name : Name} {e : ℕ} {k : Source.Enum} → IsEnum program core name e k → IsGiven (EnumType name) (Of (types.Enum e))

  class_meant : (name : Name) (c : ℕ) (o : Option Source.Class) (k : Source.Class) → o ≡ Some k → IsClass program core name c →
      IsGiven (elim o [ None ↦ EnumType name | Some c ↦ ClassType name ]) (Of (types.Object c))
  class_meant name c None k e i = absurd (none_some e)
  class_meant name c (Some k) _ e i = class_given i

  enum_meant : (name : Name) (n : ℕ) (k : Source.Enum) (o : Option Source.Class) → o ≡ None → IsEnum program core name n k →
      IsGiven (elim o [ None ↦ EnumType name | Some c ↦ ClassType name ]) (Of (types.Enum n))
  enum_meant name n k None e i = enum_given i
  enum_meant name n k (Some c) e i = absurd (none_some (sym e))

  -- a written type is kept as what it is resolved to
  pub meant_given : (ty : TypeName) (u : CoreType) → IsType program core ty u → IsGiven (meant program ty) (Of u)
  meant_given _ _ is.void_type = no_value
  meant_given _ _ is.int_type = int_given
  meant_given _ _ is.boolean_type = boolean_given
  meant_given _ _ is.text_type = text_given
  meant_given _ _ (is.class_type {name = name} {c = c} i) = class_meant name c (class_named program.files name) i.class i.named i
  meant_given _ _ (is.enum_type {name = name} {e = e} {k = k} none i) = enum_meant name e k (class_named program.files name) none i

  module _ (method : Core.Method) where
    -- a local of the source, and how it is known
    pub record IsKnown (d : Declared) (l : Known) : Type 0 where
      pub name : l.name ≡ d.name
      pub ty : TypeName
      pub type : d.type ≡ meant program ty
      pub is : IsType program core ty l.it.ty
      pub at : core_lookup.slot_type method l.it.slot ≡ Some l.it.ty

    abbrev pub AreKnown : List Declared → List Known → Type 0
    AreKnown ds ls = Aligned IsKnown ds ls

-- each slot in scope is below this number and those of the locals nearer by
abbrev pub Falls : ℕ → List Known → Type 0
Falls n [] = Unit {0}
Falls n (l ∷ ls) = (l.it.slot < n) × Falls l.it.slot ls

abbrev pub slots_in : List Known → List ℕ
slots_in ls = map (λ l. l.it.slot) ls

-- a local that was found
pub record LocalFound (program : Program) (core : Core.Program) (method : Core.Method) (x : Name) (ds : List Declared) (ls : List Known)
    (n : ℕ) (l : Known) : Type 0 where
  pub declared : Declared
  pub found : declared_named ds x ≡ Some declared
  pub is : IsKnown program core method declared l
  pub low : l.it.slot < n
  pub slot : HasSlot x ds (slots_in ls) l.it.slot

module _ (program : Program) (core : Core.Program) (method : Core.Method) (x : Name) where
  F : List Declared → List Known → ℕ → Known → Type 0
  F = LocalFound program core method x

  pub local_found : (ds : List Declared) (ls : List Known) (n : ℕ) (l : Known) → AreKnown program core method ds ls → Falls n ls →
      known_named ls x ≡ Some l → LocalFound program core method x ds ls n l
  local_found _ _ n l is.none f e = absurd (none_some e)
  local_found _ _ n l (is.more {a = d} {b = k} {as' = ds} {bs = ls} i rest) f e =
      go (bytes_eq k.name x) refl e (λ e. local_found ds ls k.it.slot l rest f.1 e)
    where
      here : k.name ≡ x → k ≡ l → LocalFound program core method x (d ∷ ds) (k ∷ ls) n l
      here same this = subst (LocalFound program core method x (d ∷ ds) (k ∷ ls) n) this (record {
        declared = d;
        found = ap (λ t. cond t (Some d) (find (λ d. bytes_eq d.name x) ds)) ((bytes_eq-Decides d.name x).1 (sym i.name ∙ same));
        is = i;
        low = f.0;
        slot = is.here (sym i.name ∙ same);
      })

      unlike : (b : Bool) → (d.name ≡ x → ⊥) → bytes_eq d.name x ≡ b → b ≡ false
      unlike true n h = absurd (n ((bytes_eq-Decides d.name x).0 h))
      unlike false n h = refl

      there : (d.name ≡ x → ⊥) → LocalFound program core method x ds ls k.it.slot l → LocalFound program core method x (d ∷ ds) (k ∷ ls) n l
      there differs w = record {
        declared = w.declared;
        found = ap (λ t. cond t (Some d) (find (λ d. bytes_eq d.name x) ds)) (unlike (bytes_eq d.name x) differs refl) ∙ w.found;
        is = w.is;
        low = let a = w.low in let b = f.0 in omega (arith, a, b);
        slot = is.there differs (λ e. let a = w.low in omega (arith, a, e)) w.slot;
      }

      go : (b : Bool) → bytes_eq k.name x ≡ b → cond b (Some k) (find (λ l. bytes_eq l.name x) ls) ≡ Some l →
          (known_named ls x ≡ Some l → LocalFound program core method x ds ls k.it.slot l) →
          LocalFound program core method x (d ∷ ds) (k ∷ ls) n l
      go true t e later = here ((bytes_eq-Decides k.name x).0 t) (some_is e)
      go false t e later = there (λ same. true≢false (sym ((bytes_eq-Decides k.name x).1 (i.name ∙ same)) ∙ t)) (later e)

  pub no_local : (ds : List Declared) (ls : List Known) → AreKnown program core method ds ls → known_named ls x ≡ None →
      declared_named ds x ≡ None
  no_local _ _ is.none e = refl
  no_local _ _ (is.more {a = d} {b = k} {as' = ds} {bs = ls} i rest) e =
      go (bytes_eq k.name x) (ap (λ n. bytes_eq n x) i.name) e (λ e. no_local ds ls rest e)
    where
      go : (b : Bool) → b ≡ bytes_eq d.name x → cond b (Some k) (find (λ l. bytes_eq l.name x) ls) ≡ None →
          (known_named ls x ≡ None → declared_named ds x ≡ None) →
          cond (bytes_eq d.name x) (Some d) (find (λ d. bytes_eq d.name x) ds) ≡ None
      go true t e later = absurd (none_some (sym e))
      go false t e later = ap (λ b. cond b (Some d) (find (λ d. bytes_eq d.name x) ds)) (sym t) ∙ later e

-- What the core has of what was resolved: the types of fields and the results of methods.
pub record Holds (program : Program) (core : Core.Program) (tables : Tables) (at : Standing) (method : Core.Method) : Type 0 where
  pub fields : (k : ℕ) (f : Source.Field) (u : CoreType) → slice_get at.entry.class.fields k ≡ Some f → type_meant tables f.ty ≡ Some u →
      core_lookup.field_type core method.class k ≡ Some u
  pub results : (n : ℕ) (o : Owned) (u : CoreType) → slice_get (methods_of program) n ≡ Some o →
      type_meant tables o.method.result ≡ Some u →
      result_of core n ≡ Some u

-- Where code stands, in the source and as it is resolved.
pub record Stands (core : Core.Program) (tables : Tables) (method : Core.Method) (scope : Scope) (at : Standing) : Type 0 where
  pub tabled : IsTabled scope.program tables
  pub number : ℕ
  pub entry : IsEntry scope.program number at.entry
  pub class : at.entry.class ≡ scope.class
  pub named : class_named scope.program.files scope.class.name ≡ Some scope.class
  pub static : at.is_static ≡ scope.method.is_static
  pub holds : Holds scope.program core tables at method

module _ (core : Core.Program) (tables : Tables) (method : Core.Method) (scope : Scope) (at : Standing)
    (s : Stands core tables method scope at) where
  -- an own field that was found
  pub record FieldFound (name : Name) (x : Found) : Type 0 where
    pub place : ℕ
    pub var : x.var ≡ vars.Field place
    pub own : IsOwnField scope.program core scope name place
    pub type : ValueType
    pub typed : field_type scope name ≡ Some type
    pub given : IsGiven scope.program core type (Of x.ty)
    pub in_core : core_lookup.variable_type core method x.var ≡ Some x.ty

  -- an own field, or none
  abbrev pub OwnIs : Name → Option Found → Type 0
  OwnIs name None = own_field scope name ≡ None
  OwnIs name (Some x) = FieldFound name x

  instance : at.is_static ≡ false → (name : Name) → own_field scope name ≡ field_named scope.class name
  instance e name = ap (λ b. if b then None else field_named scope.class name) (sym s.static ∙ e)

  field_is : (name : Name) (f : Placed) (u : CoreType) → at.is_static ≡ false → field_called at.entry name ≡ Some f →
      type_meant tables f.field.ty ≡ Some u →
      FieldFound name (record { var = vars.Field f.place; ty = u })
  field_is name f u e called typed =
      let w = field_called_is at.entry name f called in
      let visible = instance e name ∙ (ap (λ c. field_named c name) (sym s.class) ∙ w.named) in
      record {
        place = f.place;
        var = refl;
        own = record {
          field = f.field;
          visible = visible;
          at = ap (λ (c : Source.Class). slice_get c.fields f.place) (sym s.class) ∙
              w.at;
        };
        type = meant scope.program f.field.ty;
        typed = ap (option_map (λ (f : Source.Field). meant scope.program f.ty)) visible;
        given = meant_given scope.program core f.field.ty u (type_meant_is scope.program core tables s.tabled f.field.ty u typed);
        in_core = s.holds.fields f.place f.field u w.at typed;
      }

  pub own_is : (name : Name) (o : Option Found) → own_found tables at name ≡ Some o → OwnIs name o
  own_is name o given = go at.is_static refl given
    where
      typed : (f : Placed) (e : at.is_static ≡ false) → field_called at.entry name ≡ Some f →
          (type_meant tables f.field.ty >>= λ ty. Some (Some (record { var = vars.Field f.place; ty = ty }))) ≡ Some o → OwnIs name o
      typed f e called given =
          let b = bound (type_meant tables f.field.ty) _ o given in
          subst (OwnIs name) (some_is b.gives) (field_is name f b.item e called b.is)

      look : (q : Option Placed) → field_called at.entry name ≡ q → at.is_static ≡ false →
          elim q [
            | None ↦ Some None
            | Some f ↦ type_meant tables f.field.ty >>= λ ty. Some (Some (record { var = vars.Field f.place; ty = ty }))
          ] ≡ Some o → OwnIs name o
      look None called e given =
          subst (OwnIs name) (some_is given) (instance e name ∙
          (ap (λ c. field_named c name) (sym s.class) ∙ no_field scope.program core at.entry name called))
      look (Some f) called e given = typed f e called given

      go : (b : Bool) → at.is_static ≡ b →
          (if b then Some None else elim (field_called at.entry name) [
            | None ↦ Some None
            | Some f ↦ type_meant tables f.field.ty >>= λ ty. Some (Some (record { var = vars.Field f.place; ty = ty }))
          ]) ≡ Some o → OwnIs name o
      go true e given =
          subst (OwnIs name) (some_is given) (ap (λ b. if b then None else field_named scope.class name) (sym s.static ∙ e))
      go false e given = look (field_called at.entry name) refl e given

  module _ (locals : List Known) (loops : List (Option ℕ)) (n : ℕ) (known : AreKnown scope.program core method scope.locals locals)
      (falls : Falls n locals) where
    abbrev numbers : Numbers
    numbers = record { slots = slots_in locals; loops = loops }

    -- a variable that was found
    pub record VariableFound (name : Name) (x : Found) : Type 0 where
      pub is : (p : Place) → IsVar scope.program core scope numbers (Source.Variable p name) x.var
      pub type : ValueType
      pub typed : variable_type scope name ≡ Some type
      pub given : IsGiven scope.program core type (Of x.ty)
      pub in_core : core_lookup.variable_type core method x.var ≡ Some x.ty

    abbrev pub VariableIs : Name → Option Found → Type 0
    VariableIs name None = variable_type scope name ≡ None
    VariableIs name (Some x) = VariableFound name x

    by_local : (name : Name) (o : Option Declared) → local_named scope name ≡ o →
        variable_type scope name ≡ elim o [ None ↦ field_type scope name | Some d ↦ Some d.type ]
    by_local name o e = ap (λ (o : Option Declared). elim o [ None ↦ field_type scope name | Some d ↦ Some d.type ]) e

    pub variable_is : (name : Name) (o : Option Found) → found tables at locals name ≡ Some o → VariableIs name o
    variable_is name o given = go (known_named locals name) refl given
      where
        of_local : (l : Known) → LocalFound scope.program core method name scope.locals locals n l →
            VariableFound name (record { var = vars.Slot l.it.slot; ty = l.it.ty })
        of_local l w = record {
          is = λ p. is.a_local w.slot;
          type = w.declared.type;
          typed = by_local name (Some w.declared) w.found;
          given = subst (λ t. IsGiven scope.program core t (Of l.it.ty)) (sym w.is.type)
              (meant_given scope.program core w.is.ty l.it.ty w.is.is);
          in_core = w.is.at;
        }

        of_field : (o : Option Found) → local_named scope name ≡ None → OwnIs name o → VariableIs name o
        of_field None none w = by_local name None none ∙ ap (option_map (λ (f : Source.Field). meant scope.program f.ty)) w
        of_field (Some x) none w = record {
          is = λ p. subst (IsVar scope.program core scope numbers (Source.Variable p name)) (sym w.var) (is.a_field none w.own);
          type = w.type;
          typed = by_local name None none ∙ w.typed;
          given = w.given;
          in_core = w.in_core;
        }

        go : (q : Option Known) → known_named locals name ≡ q →
            elim q [ Some l ↦ Some (Some (record { var = vars.Slot l.it.slot; ty = l.it.ty })) | None ↦ own_found tables at name ] ≡ Some o →
            VariableIs name o
        go None e given = of_field o (no_local scope.program core method name scope.locals locals known e) (own_is name o given)
        go (Some l) e given =
            subst (VariableIs name) (some_is given)
            (of_local l (local_found scope.program core method name scope.locals locals n l known falls e))

-- what is found somewhere is among all
pub any_found : {X : Type 0} (p : X → Bool) (xs : List X) (n : ℕ) → position p xs ≡ Some n → list_any p xs ≡ true
any_found p xs n e = list_any-position p xs ∙ go (nat_lt (position_or_len p xs) (length xs)) e
  where
    go : (b : Bool) → cond b (Some (position_or_len p xs)) None ≡ Some n → b ≡ true
    go true e = refl
    go false e = absurd (none_some e)
