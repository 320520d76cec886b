-- Where nothing is missing, an answer is given: the steps.
use Rattle.std.proofs.Common.{◌≡◌, ⊎_elim, ℕ, zero, suc, ◌+◌, List, [], ◌∷◌, ◌++◌, map, length, Option, Some, None, option_map, position}
use Rattle.std.proofs.Common.{slice_get, refl, sym, ◌∙◌, subst}
use Rattle.std.specs.Prelude.{find, if◌then◌else◌}
use Rattle.std.specs.Str.{bytes_eq}
use Rattle.mg_text.specs.Call.{Name}
use Rattle.mg_text.specs.Interned.{with_text}
use Rattle.mg_text.specs.declared.place.Place.{Place}
use Rattle.mg_text.proofs.Numbered.{position-push_text}
use Rattle.mg_read.specs.Culprit.{Culprit, culprit}
use Rattle.ts_tree.specs.declared.parts.TypeName.{TypeName}
use Rattle.ts_tree.specs.declared.parts.TypeName.TheVariants as written
use Rattle.jv_tree.specs.Source
use Rattle.jv_meaning.specs.Program.{class_named, enum_named, method_named}
use Rattle.jv_rules.specs.Program.{Program}
use Rattle.jv_rules.specs.Members.{Written}
use Rattle.jv_rules.specs.Declarations.{UnknownClass, IsUsable, IsUsableClass}
use Rattle.jv_core.specs.declared.program.CoreType.TheVariants as types
use Rattle.jv_core.specs.Tree as Core
use Rattle.jv_names.proofs.Tables.{none_some}
use Rattle.jv_resolve_law.specs.Tables.{◌>>=◌, Entry, Tables, class_names, enum_names, class_called, enum_called, method_called}
use Rattle.jv_resolve_law.specs.Tables.{type_called, type_meant, interned}
use Rattle.jv_resolve_law.proofs.Steps.{Named, named, not_named}
use Rattle.jv_resolve_law.proofs.Tabled.{IsTabled, no_class}
use Rattle.std.specs.Option.{is_some}

-- there is an answer
abbrev pub Given : {A : Type 0} → Option A → Type 0
Given o = o ≡ None → ⊥

pub given_bind : {A B : Type 0} (o : Option A) (f : A → Option B) → Given o → ((a : A) → o ≡ Some a → Given (f a)) → Given (o >>= f)
given_bind None f n later e = n refl
given_bind (Some a) f n later e = later a refl e

pub given_map : {A B : Type 0} (f : A → B) (o : Option A) → Given o → Given (option_map f o)
given_map f None n e = n refl
given_map f (Some a) n e = none_some (sym e)

pub given_some : {A : Type 0} (a : A) → Given (Some a)
given_some a e = none_some (sym e)

pub given_as : {A : Type 0} (o : Option A) (a : A) → o ≡ Some a → Given o
given_as o a e n = none_some (sym n ∙ e)

pub given_interned : (names : List Name) (name : Name) → Given (interned names name)
given_interned names name =
    given_bind (position (bytes_eq name) (with_text names name)) _ (go (position (bytes_eq name) names) refl) (λ n e. given_some _)
  where
    go : (o : Option ℕ) → position (bytes_eq name) names ≡ o →
        Given (position (bytes_eq name) (if is_some (position (bytes_eq name) names) then names else names ++ name ∷ []))
    go None e =
        subst (λ o. Given (position (bytes_eq name) (if is_some o then names else names ++ name ∷ []))) (sym e)
        (given_as (position (bytes_eq name) (names ++ name ∷ [])) (length names) (position-push_text names name e))
    go (Some n) e =
        subst (λ o. Given (position (bytes_eq name) (if is_some o then names else names ++ name ∷ []))) (sym e)
        (given_as (position (bytes_eq name) names) n e)

-- what stands in a list of parts of things stands for a thing
pub given_part : {A B : Type 0} (f : A → B) (xs : List A) (n : ℕ) (b : B) → slice_get (map f xs) n ≡ Some b → Given (slice_get xs n)
given_part f [] n b at e = none_some at
given_part f (x ∷ xs) zero b at e = none_some (sym e)
given_part f (x ∷ xs) (suc n) b at e = given_part f xs n b at e

-- Names that name something.

-- at a place that was found, something stands
pub given_at : {X Y : Type 0} (key : X → Name) (xs : List X) (name : Name) (f : ℕ → X → Y) →
    Given (find (λ x. bytes_eq (key x) name) xs) →
    Given (position (bytes_eq name) (map key xs) >>= λ n. slice_get xs n >>= λ x. Some (f n x))
given_at key xs name f n =
    given_bind (position (bytes_eq name) (map key xs)) _ (λ e. n (not_named key xs name e))
    (λ i e. given_bind (slice_get xs i) _ (stands i (named key xs name i e)) (λ x h. given_some (f i x)))
  where
    stands : (i : ℕ) → Named key xs name i → Given (slice_get xs i)
    stands i w = given_as (slice_get xs i) w.item w.at

module _ (program : Program) (core : Core.Program) (tables : Tables) (t : IsTabled program tables) where
  pub class_given : (name : Name) → Given (class_named program.files name) → Given (class_called tables name)
  class_given name n =
      given_bind (position (bytes_eq name) (class_names tables)) _ (λ e. n (no_class program core tables t name e))
      (λ i e. stands i (named (λ (e : Entry). e.class.name) tables.classes name i e))
    where
      stands : (i : ℕ) → Named (λ (e : Entry). e.class.name) tables.classes name i → Given (slice_get tables.classes i)
      stands i w = given_as (slice_get tables.classes i) w.item w.at

  pub enum_given : (name : Name) → Given (enum_named program.files name) → Given (enum_called tables name)
  enum_given name n =
      given_at (λ (e : Source.Enum). e.name) tables.enums name _
      (λ e. n (subst (λ es. find (λ (e : Source.Enum). bytes_eq e.name name) es ≡ None) t.enums e))

  type_named : (name : Name) → ((IsUsable program name → ⊥) → ⊥) → Given (type_called tables name)
  type_named name usable = go (position (bytes_eq name) (class_names tables)) refl
    where
      no_enum : position (bytes_eq name) (enum_names tables) ≡ None → enum_named program.files name ≡ None
      no_enum e = subst (λ es. find (λ (e : Source.Enum). bytes_eq e.name name) es ≡ None) t.enums
          (not_named (λ (e : Source.Enum). e.name) tables.enums name e)

      go : (o : Option ℕ) → position (bytes_eq name) (class_names tables) ≡ o →
          Given (elim o [ Some c ↦ Some (types.Object c) | None ↦ option_map types.Enum (position (bytes_eq name) (enum_names tables)) ])
      go (Some c) e = given_some (types.Object c)
      go None e = given_map types.Enum (position (bytes_eq name) (enum_names tables))
          (λ h. usable (λ u. ⊎_elim (λ some. some (no_enum h)) (λ of. subst IsUsableClass (no_class program core tables t name e) of) u))

  -- a type that is written where it is no fault
  pub type_given : (p : Place) (ty : TypeName) → ((c : Culprit) → UnknownClass program (Written p ty) c → ⊥) →
      Given (type_meant tables ty)
  type_given p written.Void fine = given_some types.Void
  type_given p written.Int fine = given_some types.Int
  type_given p written.Boolean fine = given_some types.Boolean
  type_given p written.Text fine = given_some types.Text
  type_given p (written.Named name) fine = type_named name (λ n. fine (culprit p name) (refl, n))

pub method_given : (e : Entry) (f : Name) → Given (method_named e.class f) → Given (method_called e f)
method_given e f n = given_at (λ (m : Source.Method). m.name) e.class.methods f
    (λ n m. record { method = m; number = e.first_method + n }) n
