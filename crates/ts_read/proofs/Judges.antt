-- What the searches find is the culprit of each condition.
use Rattle.std.proofs.Common.{◌≡◌, ℕ, List, [], ◌∷◌, ◌++◌, length, map, Option, Some, None, Bool, true, false, cond, ltb, ◌⊎◌, inl, inr}
use Rattle.std.proofs.Common.{append_assoc, append-nil, position, codes, refl, sym, ◌∙◌, subst}
use Rattle.std.specs.Prelude.{is_some, ◌||◌}
use Rattle.std.specs.List.{Contains, list_any, flat_map, position_or_len}
use Rattle.std.specs.Str.{bytes_eq}
use Rattle.std.proofs.lemmas.Cmp.{nat_list_eq_equiv}
use Rattle.std.proofs.lemmas.Slice.Eq.{bytes_eq-Decides}
use Rattle.std.proofs.lemmas.Map.Views.{list_any-from_Contains, Contains-from_any}
use Rattle.std.proofs.lemmas.List.{map-append}
use Rattle.mg_text.specs.Call.{Name}
use Rattle.mg_text.proofs.Numbered.{list_any-position, list_any-from_None}
use Rattle.mg_read.specs.Culprit.{Culprit}
use Rattle.mg_read.specs.First.{Judged, clean, here, later, behind}
use Rattle.mg_read.proofs.Judging.{judged-append}
use Rattle.ts_parse.specs.declared.written.Naming.{Naming}
use Rattle.ts_read.specs.Conditions.{blamed, texts, IsRepeat, IsUnknown, IsNamedEnd}
use Rattle.ts_parse.specs.declared.written.WrittenState.{WrittenState}
use Rattle.ts_read.specs.inner.Finding.{is_in, repeat_in, first_some, is_known, unknown_name, noted, named_end}

-- ---- a text among texts

any_is_some : (p : Name → Bool) (xs : List Name) → list_any p xs ≡ is_some (position p xs)
any_is_some p xs = list_any-position p xs ∙ sym (shape (ltb (position_or_len p xs) (length xs)) (position_or_len p xs)) where
  shape : (b : Bool) (n : ℕ) → is_some (cond b (Some n) None) ≡ b
  shape true n = refl
  shape false n = refl

pub is_in_any : (seen : List Name) (t : Name) → is_in seen t ≡ true → list_any (bytes_eq t) seen ≡ true
is_in_any seen t e = any_is_some (bytes_eq t) seen ∙ e

pub in_contained : (seen : List Name) (t : Name) → is_in seen t ≡ true → Contains seen t
in_contained seen t e = Contains-from_any (λ x y s. (bytes_eq-Decides x y).0 s) t seen (is_in_any seen t e)

pub contained_in : (seen : List Name) (t : Name) → Contains seen t → is_in seen t ≡ true
contained_in seen t h = go (position (bytes_eq t) seen) refl where
  go : (o : Option ℕ) → position (bytes_eq t) seen ≡ o → is_some o ≡ true
  go (Some k) e = refl
  go None e = let no : true ≡ false = sym (list_any-from_Contains nat_list_eq_equiv t seen h) ∙ list_any-from_None (bytes_eq t) seen e in cc

-- ---- repeats

pub repeat_judged : (earlier ns : List Naming) → Judged IsRepeat (behind earlier ns) (repeat_in (texts earlier) ns)
repeat_judged earlier [] = clean
repeat_judged earlier (n ∷ ns) =
    let more = subst (λ (ts : List Name). Judged IsRepeat (behind (earlier ++ n ∷ []) ns) (repeat_in ts ns))
    (map-append (λ (m : Naming). m.text) earlier (n ∷ [])) (repeat_judged (earlier ++ n ∷ []) ns) in
    go (is_in (texts earlier) n.text) refl more where
      go : (b : Bool) → is_in (texts earlier) n.text ≡ b
          → Judged IsRepeat (behind (earlier ++ n ∷ []) ns) (repeat_in (texts earlier ++ n.text ∷ []) ns)
          → Judged IsRepeat ((earlier, n) ∷ behind (earlier ++ n ∷ []) ns)
          (cond b (Some (blamed n)) (repeat_in (texts earlier ++ n.text ∷ []) ns))
      go true e more = here (refl, in_contained (texts earlier) n.text e)
      go false e more = later (λ c h. let no : true ≡ false = sym (contained_in (texts earlier) n.text h.1) ∙ e in cc) more

-- ---- parts after parts

pub first_judged : {X Y : Type 0} (At : Y → Culprit → Type 0) (parts : X → List Y) (find : X → Option Culprit)
    → ((x : X) → Judged At (parts x) (find x))
    → (xs : List X) → Judged At (flat_map parts xs) (first_some (map find xs))
first_judged At parts find h [] = clean
first_judged At parts find h (x ∷ xs) = judged-append (h x) (first_judged At parts find h xs)

-- one part an element
pub each_judged : {X Y : Type 0} (At : Y → Culprit → Type 0) (part : X → Y) (find : X → Option Culprit)
    → ((x : X) → Judged At (part x ∷ []) (find x))
    → (xs : List X) → Judged At (map part xs) (first_some (map find xs))
each_judged At part find h [] = clean
each_judged At part find h (x ∷ xs) = judged-append (h x) (each_judged At part find h xs)

-- ---- names of states

-- where none repeats, the table has the names in their order
pub noted_distinct : (seen : List Name) (ns : List Naming) → repeat_in seen ns ≡ None → noted seen ns ≡ seen ++ texts ns
noted_distinct seen [] e = sym (append-nil seen)
noted_distinct seen (n ∷ ns) e = go (is_in seen n.text) e (λ h. noted_distinct (seen ++ n.text ∷ []) ns h) where
  go : (b : Bool) → cond b (Some (blamed n)) (repeat_in (seen ++ n.text ∷ []) ns) ≡ None
      → (repeat_in (seen ++ n.text ∷ []) ns ≡ None → noted (seen ++ n.text ∷ []) ns ≡ (seen ++ n.text ∷ []) ++ texts ns)
      → noted (cond b seen (seen ++ n.text ∷ [])) ns ≡ seen ++ n.text ∷ texts ns
  go true e more = absurd cc
  go false e more = more e ∙ append_assoc seen (n.text ∷ []) (texts ns)

or_true : (a b : Bool) → (a || b) ≡ true → (a ≡ true) ⊎ (b ≡ true)
or_true true b e = inl refl
or_true false b e = inr e

or_false : (a b : Bool) → (a || b) ≡ false → (a ≡ false) × (b ≡ false)
or_false true b e = absurd cc
or_false false b e = (refl, e)

pub true_false : {b : Bool} → b ≡ true → b ≡ false → ⊥
true_false e f = let no : true ≡ false = sym e ∙ f in cc

pub unknown_judged : (states : List Naming) (n : Naming) → Judged (IsUnknown states) (n ∷ []) (unknown_name (texts states) n)
unknown_judged states n = go (is_known (texts states) n.text) refl where
  go : (b : Bool) → is_known (texts states) n.text ≡ b → Judged (IsUnknown states) (n ∷ []) (cond b None (Some (blamed n)))
  go true e = later (λ c h. elim (or_true (bytes_eq n.text (codes "end")) (is_in (texts states) n.text) e) [
    | inl t ↦ h.1 ((bytes_eq-Decides n.text (codes "end")).0 t)
    | inr t ↦ h.2 (in_contained (texts states) n.text t)
  ]) clean
  go false e =
      let f = or_false (bytes_eq n.text (codes "end")) (is_in (texts states) n.text) e in
      here (
        refl,
        (λ h. true_false ((bytes_eq-Decides n.text (codes "end")).1 h) f.0),
        (λ h. true_false (contained_in (texts states) n.text h) f.1),
      )

pub end_judged : (s : WrittenState) → Judged IsNamedEnd (s.name ∷ []) (named_end s)
end_judged s = go (bytes_eq s.name.text (codes "end")) refl where
  go : (b : Bool) → bytes_eq s.name.text (codes "end") ≡ b → Judged IsNamedEnd (s.name ∷ []) (cond b (Some (blamed s.name)) None)
  go true e = here (refl, (bytes_eq-Decides s.name.text (codes "end")).0 e)
  go false e = later (λ c h. true_false ((bytes_eq-Decides s.name.text (codes "end")).1 h.1) e) clean
