-- What members are resolved to, from what their parts are.
use Rattle.std.proofs.Common.{◌≡◌, ℕ, zero, suc, ◌+◌, List, [], ◌∷◌, ◌++◌, map, length, Option, Some, None, refl, sym, ap, ◌∙◌, arith}
use Rattle.std.specs.Option.{option_map}
use Rattle.mg_text.specs.Call.{Name}
use Rattle.jv_tree.specs.Source
use Rattle.jv_core.specs.Tree as Core
use Rattle.jv_core.specs.Numbering.{numbers_from}
use Rattle.jv_core.specs.declared.program.CoreType.{CoreType}
use Rattle.jv_resolve_law.specs.Tables.{◌>>=◌, Tables, Entry, Interned, interned, type_meant}
use Rattle.jv_resolve_law.specs.Members.{Naming, all_interned, enum, enums, begins_with, field, fields, class, classes}
use Rattle.jv_resolve.specs.declared.given.Unresolved.{Unresolved}
use Rattle.jv_resolve.specs.inner.Gives.{Fails}
use Rattle.jv_resolve.specs.inner.Interning.{with_number}
use Rattle.jv_resolve.specs.inner.Naming.{naming, numbered, threaded}
use Rattle.jv_resolve.proofs.Chains.{fails_then, fails_as}
use Rattle.jv_resolve.proofs.Threads.{then_same, same_threaded}

-- ---- names and enums

interned_first : (o : Option Interned) (f : List Name → Option (Naming (List ℕ))) →
    (o >>= λ n. f n.names >>= λ r. Some (naming (n.number ∷ r.it) r.names)) ≡ (option_map (λ n. naming n.number n.names) o
    >>= λ k. f k.names >>= λ r. Some (naming (k.it ∷ r.it) r.names))
interned_first None f = refl
interned_first (Some n) f = refl

pub same_interned : (names xs : List Name) → all_interned names xs ≡ threaded numbered names (map (λ x. x) xs)
same_interned names [] = refl
same_interned names (x ∷ xs) =
    then_same (interned names x) (λ n. all_interned n.names xs >>= λ r. Some (naming (n.number ∷ r.it) r.names))
    (λ n. threaded numbered n.names (map (λ y. y) xs) >>= λ r. Some (naming (n.number ∷ r.it) r.names))
    (λ n. ap (λ o. o >>= λ r. Some (naming (n.number ∷ r.it) r.names)) (same_interned n.names xs))
    ∙ interned_first (interned names x) (λ ns. threaded numbered ns (map (λ y. y) xs))

pub number_made : (names later : List Name) (x : Name) (n : ℕ) → interned names x ≡ Some (with_number n later) →
    numbered names x ≡ Some (naming n later)
number_made names later x n h = ap (option_map (λ m. naming m.number m.names)) h

abbrev pub core_enum : ℕ → List ℕ → Core.Enum
core_enum n cs = record { name = n; constants = cs }

pub enum_made : (names : List Name) (e : Source.Enum) (n : ℕ) (ns : List Name) (cs : List ℕ) (later : List Name) →
    interned names e.name ≡ Some (with_number n ns) → all_interned ns e.constants ≡ Some (naming cs later) →
    enum names e ≡ Some (naming (core_enum n cs) later)
enum_made names e n ns cs later h k =
    ap (λ o. o >>= λ m. all_interned m.names e.constants >>= λ c. Some (naming (core_enum m.number c.it) c.names)) h
    ∙ ap (λ o. o >>= λ c. Some (naming (core_enum n c.it) c.names)) k

pub same_enums : (names : List Name) (es : List Source.Enum) → enums names es ≡ threaded enum names es
same_enums = same_threaded enum enums (λ ns. refl) (λ ns e es. refl)

-- ---- fields

abbrev pub core_field : ℕ → CoreType → Option Core.Expr → Core.Field
core_field n ty v = record { name = n; ty = ty; value = v }

module _ (tables : Tables) (names : List Name) (f : Source.Field) (n : ℕ) (later : List Name)
    (named : interned names f.name ≡ Some (with_number n later)) where
  abbrev with_type : List Name → ℕ → Option CoreType → Option (Naming Core.Field)
  with_type ns m o = o >>= λ ty. begins_with tables f.value >>= λ v. Some (naming (core_field m ty v) ns)

  field_named : field tables names f ≡ with_type later n (type_meant tables f.ty)
  field_named = ap (λ o. o >>= λ m. with_type m.names m.number (type_meant tables f.ty)) named

  pub field_made : (ty : CoreType) (v : Option Core.Expr) → type_meant tables f.ty ≡ Some ty → begins_with tables f.value ≡ Some v →
      field tables names f ≡ Some (naming (core_field n ty v) later)
  field_made ty v typed begun = field_named ∙ ap (with_type later n) typed ∙ ap (λ o. o >>= λ w. Some (naming (core_field n ty w) later))
      begun

  pub field_type_fails : (err : Unresolved) → Fails err (type_meant tables f.ty) → Fails err (field tables names f)
  field_type_fails err h = fails_as err _ _ field_named
      (fails_then err (type_meant tables f.ty) (λ ty. begins_with tables f.value >>= λ v. Some (naming (core_field n ty v) later)) h)

  pub field_value_fails : (err : Unresolved) (ty : CoreType) → type_meant tables f.ty ≡ Some ty → Fails err (begins_with tables f.value) →
      Fails err (field tables names f)
  field_value_fails err ty typed h = fails_as err _ _ (field_named ∙ ap (with_type later n) typed)
      (fails_then err (begins_with tables f.value) (λ w. Some (naming (core_field n ty w) later)) h)

pub same_fields : (tables : Tables) (names : List Name) (fs : List Source.Field) → fields tables names fs ≡ threaded (field tables) names fs
same_fields tables = same_threaded (field tables) (fields tables) (λ ns. refl) (λ ns f fs. refl)

-- ---- classes

pub numbers_push : (n count : ℕ) → numbers_from n (suc count) ≡ numbers_from n count ++ (n + count) ∷ []
numbers_push n zero = ap (λ k. k ∷ []) (omega arith)
numbers_push n (suc count) = ap (λ ks. n ∷ ks) (numbers_push (suc n) count ∙ ap (λ k. numbers_from (suc n) count ++ k ∷ []) (omega arith))

abbrev pub core_class : Entry → ℕ → Option ℕ → List Core.Field → List ℕ → Core.Class
core_class e n t fs ms = record { place = e.class.place; name = n; typestate = t; fields = fs; methods = ms }

module _ (tables : Tables) (names : List Name) (e : Entry) (n : ℕ) (ns : List Name)
    (named : interned names e.class.name ≡ Some (with_number n ns)) where
  abbrev with_fields : ℕ → Option (Naming (List Core.Field)) → Option (Naming Core.Class)
  with_fields m o =
      o >>= λ fs. Some (naming (core_class e m e.typestate fs.it (numbers_from e.first_method (length e.class.methods))) fs.names)

  class_opened : class tables names e ≡ with_fields n (fields tables ns e.class.fields)
  class_opened = ap (λ o. o >>= λ m. with_fields m.number (fields tables m.names e.class.fields)) named

  pub class_made : (fs : List Core.Field) (ms : List ℕ) (t : Option ℕ) (later : List Name) →
      fields tables ns e.class.fields ≡ Some (naming fs later) → ms ≡ numbers_from e.first_method (length e.class.methods) →
      t ≡ e.typestate → class tables names e ≡ Some (naming (core_class e n t fs ms) later)
  class_made fs ms t later h is named =
      class_opened ∙ ap (with_fields n) h ∙ ap (λ ks. Some (naming (core_class e n e.typestate fs ks) later)) (sym is)
      ∙ ap (λ u. Some (naming (core_class e n u fs ms) later)) (sym named)

  pub class_fails : (err : Unresolved) → Fails err (fields tables ns e.class.fields) → Fails err (class tables names e)
  class_fails err h =
      fails_as err _ _ class_opened
      (fails_then err (fields tables ns e.class.fields)
      (λ fs. Some (naming (core_class e n e.typestate fs.it (numbers_from e.first_method (length e.class.methods))) fs.names)) h)

pub same_classes : (tables : Tables) (names : List Name) (es : List Entry) → classes tables names es ≡ threaded (class tables) names es
same_classes tables = same_threaded (class tables) (classes tables) (λ ns. refl) (λ ns e es. refl)
