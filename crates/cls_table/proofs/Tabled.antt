-- Names have numbers, and types have kinds.
use Rattle.std.proofs.Common.{◌≡◌, ℕ, zero, suc, ◌+◌, Bool, true, false, List, [], ◌∷◌, ◌++◌, length, map, get_or, position, cond, ltb}
use Rattle.std.proofs.Common.{◌<◌, ◌≤◌, drop, append_assoc}
use Rattle.std.proofs.Common.{Option, Some, None, option_map, is_some, refl, sym, ap, ap₂, ◌∙◌, arith}
use Rattle.std.proofs.lemmas.List.{append-nil, at_drop_more, drop_all, map-append}
use Rattle.std.specs.Prelude.{if◌then◌else◌, slice_get, codes}
use Rattle.std.specs.List.{IsDistinct, list_any, position_or_len}
use Rattle.std.proofs.lemmas.Cmp.{nat_list_eq_equiv}
use Rattle.std.proofs.lemmas.Map.Keys.{IsDistinct-push}
use Rattle.mg_text.proofs.Numbered.{list_any-position}
use Rattle.std.specs.Str.{bytes_eq}
use Rattle.std.proofs.lemmas.Slice.Eq.{bytes_eq-Decides}
use Rattle.std.proofs.lemmas.List.Quantifiers.{position-Some}
use Rattle.std.proofs.lemmas.Option.{slice_get-get_or}
use Rattle.mg_text.specs.Call.{Name}
use Rattle.mg_text.specs.Interned.{with_text}
use Rattle.vm_model.specs.Types.{FieldType, Signature}
use Rattle.vm_model.specs.Program.{MethodOf}
use Rattle.vm_model.specs.Tests.{params_in}
use Rattle.vm_model.specs.Kept.{kept_type, kept_params}
use Rattle.vm_model.proofs.KeptTypes.{type_is}
use Rattle.cls_verify.specs.Kinds.{object, Instance, kind_of_type, kind_named}
use Rattle.cls_verify.specs.Kinds as model
use Rattle.cls_kinds.specs.declared.kind.Kind.{Kind}
use Rattle.cls_table.specs.Kept.{kept_kind}
use Rattle.cls_table.specs.declared.classes.MethodKinds.{MethodKinds}
use Rattle.cls_table.specs.Tables.{IsMethod, AreMethods}
use Rattle.cls_kinds.specs.Named.{AreNames, or_unnamed, numbered, kind_of, kinds_of}

-- the number that a name has
pub found : (names : List Name) (name : Name) (i : ℕ) → position (bytes_eq name) names ≡ Some i → slice_get names i ≡ Some name
found names name i e =
    let p = position-Some (bytes_eq name) names i name e in
    slice_get-get_or names i name p.0 ∙ ap Some (sym ((bytes_eq-Decides name (get_or names i name)).0 p.1))

pub instance_is : (names : List Name) (name : Name) (i k : ℕ) → position (bytes_eq name) names ≡ Some i → k ≡ i + 4 →
    numbered names k ≡ Instance name
instance_is names name i k e f =
    ap (numbered names) (let s : k ≡ suc (suc (suc (suc i))) = omega (arith, f) in s)
    ∙ ap (λ (o : Option Name). Instance (or_unnamed names i o)) (found names name i e)

-- what a type's name stands for
pub named_text : (name : Name) → name ≡ codes "java/lang/String" → model.Text ≡ kind_named name
named_text name e = sym (ap (λ b. if b then model.Text else Instance name) ((bytes_eq-Decides name (codes "java/lang/String")).1 e))

pub named_other : (name : Name) → (name ≡ codes "java/lang/String" → ⊥) → Instance name ≡ kind_named name
named_other name ne = go (bytes_eq name (codes "java/lang/String")) refl
  where
    go : (b : Bool) → bytes_eq name (codes "java/lang/String") ≡ b → Instance name ≡ (if b then model.Text else Instance name)
    go true e = absurd (ne ((bytes_eq-Decides name (codes "java/lang/String")).0 e))
    go false e = refl

-- kept types have the kinds of what they were read of
pub kept_kinds : (ts : List FieldType) → map kept_kind (map kept_type ts) ≡ map kind_of_type ts
kept_kinds [] = refl
kept_kinds (t ∷ ts) = ap₂ (λ x xs. x ∷ xs) (ap kind_of_type (type_is t)) (kept_kinds ts)

pub kept_option : (t : Option FieldType) → option_map kept_kind (option_map kept_type t) ≡ option_map kind_of_type t
kept_option None = refl
kept_option (Some t) = ap (λ x. Some (kind_of_type x)) (type_is t)

-- Each name is there once, whatever is added.

absent : (names : List Name) (name : Name) → position (bytes_eq name) names ≡ None → list_any (bytes_eq name) names ≡ false
absent names name e = go (ltb (position_or_len (bytes_eq name) names) (length names)) refl
  where
    go : (b : Bool) → ltb (position_or_len (bytes_eq name) names) (length names) ≡ b → list_any (bytes_eq name) names ≡ false
    go false f = list_any-position (bytes_eq name) names ∙ f
    go true f = absurd (let no : Some (position_or_len (bytes_eq name) names) ≡ None =
        sym (ap (λ b. cond b (Some (position_or_len (bytes_eq name) names)) None) f) ∙ e in cc no)

get_first : (xs : List Name) (x a : Name) (i : ℕ) → slice_get xs i ≡ Some a → slice_get (xs ++ x ∷ []) i ≡ Some a
get_first [] x a i e = absurd (cc e)
get_first (y ∷ xs) x a zero e = e
get_first (y ∷ xs) x a (suc i) e = get_first xs x a i e

pub with_more : (names : List Name) (name : Name) → AreNames names → AreNames (with_text names name)
with_more names name n = go (position (bytes_eq name) names) refl
  where
    go : (o : Option ℕ) → position (bytes_eq name) names ≡ o → AreNames (if is_some o then names else names ++ name ∷ [])
    go (Some i) e = n
    go None e = record {
      first = get_first names name object 0 n.first;
      second = get_first names name (codes "java/io/PrintStream") 1 n.second;
      apart = IsDistinct-push nat_list_eq_equiv names name n.apart (absent names name e);
    }

pub two_names : AreNames (object ∷ codes "java/io/PrintStream" ∷ [])
unfolding IsDistinct
two_names = record { first = refl; second = refl; apart = ((refl, tt), (tt, tt)) }

-- Methods.

pub receiver_kinds : (names : List Name) (receiver : Kind) (class : Name) (b : Bool) → kind_of names receiver ≡ Instance class →
    kinds_of names (if b then [] else receiver ∷ []) ≡ (if b then [] else Instance class ∷ [])
receiver_kinds names receiver class true e = refl
receiver_kinds names receiver class false e = ap (λ k. k ∷ []) e

pub params_kinds : (s : Option Signature) → map kept_kind (kept_params s) ≡ map kind_of_type (params_in s)
params_kinds None = refl
params_kinds (Some s) = kept_kinds s.params

pub more_methods : (names : List Name) (class : Name) (ms : List MethodOf) (xs : List MethodKinds) (m : MethodOf) (x : MethodKinds) →
    AreMethods names class ms xs → IsMethod names class m x → AreMethods names class (ms ++ m ∷ []) (xs ++ x ∷ [])
more_methods names class [] [] m x a h = (h, tt)
more_methods names class [] (y ∷ xs) m x a h = absurd a
more_methods names class (n ∷ ms) [] m x a h = absurd a
more_methods names class (n ∷ ms) (y ∷ xs) m x a h = (a.0, more_methods names class ms xs m x a.1 h)

-- A loop that makes one thing of each of a list.
module _ {A B C : Type 0} (view : A → C) (of : B → C) (xs : List B) (i : ℕ) where
  pub one_made : (x : B) (done new : List A) (a : A) (total : List C) → i < length xs → x ≡ get_or xs i x → view a ≡ of x →
      new ≡ done ++ a ∷ [] → map view done ++ map of (drop i xs) ≡ total → map view new ++ map of (drop (i + 1) xs) ≡ total
  one_made x done new a total within is same grown l =
      let rest = map of (drop (i + 1) xs) in
      let cut : drop i xs ≡ x ∷ drop (i + 1) xs = at_drop_more (λ ys. ys) xs i x within ∙ ap (λ y. y ∷ drop (i + 1) xs) (sym is) in
      ap (λ ys. map view ys ++ rest) grown
      ∙ ap (λ ys. ys ++ rest) (map-append view done (a ∷ []))
      ∙ append_assoc (map view done) (view a ∷ []) rest
      ∙ ap (λ y. map view done ++ (y ∷ rest)) same
      ∙ ap (λ ys. map view done ++ map of ys) (sym cut)
      ∙ l

  pub all_made : (done : List A) (total : List C) → length xs ≤ i → map view done ++ map of (drop i xs) ≡ total → map view done ≡ total
  all_made done total past l =
      sym (append-nil (map view done)) ∙ ap (λ ys. map view done ++ map of ys) (sym (drop_all i xs past)) ∙ l
