-- Which labels may begin a branch of a choice.
use Rattle.std.proofs.Common.{◌≡◌, ◌≢◌, ◌↔◌, Bool, true, false, not, ◌||◌, IsTrue, List, Contains, refl, sym, ap, ◌∙◌, true≢false}
use Rattle.std.specs.List.{list_any}
use Rattle.std.specs.Str.{bytes_eq}
use Rattle.std.proofs.lemmas.Cmp.{nat_list_eq_equiv}
use Rattle.std.proofs.lemmas.Slice.Eq.{bytes_eq-Decides}
use Rattle.std.proofs.lemmas.Map.Views.{list_any-from_Contains, Contains-from_any}
use Rattle.mg_text.specs.Call.{Name}
use Rattle.mg_text.specs.JavaWords.{java_words}
use Rattle.scr_judge.specs.inner.OnSpot.{is_free_label}

-- whether a name is among others
pub any_to : (name : Name) (names : List Name) → list_any (bytes_eq name) names ≡ true → Contains names name
any_to name names e = Contains-from_any (λ x y s. (bytes_eq-Decides x y).0 s) name names e

pub any_from : (name : Name) (names : List Name) → Contains names name → list_any (bytes_eq name) names ≡ true
any_from name names h = list_any-from_Contains nat_list_eq_equiv name names h

neither : (a b : Bool) → (a || not b) ≡ false → (a ≡ false) × (b ≡ true)
neither true b e = absurd (true≢false e)
neither false true e = (refl, refl)
neither false false e = absurd (true≢false e)

one_of : (a b : Bool) → (a || not b) ≡ true → a ≡ false → b ≡ true → ⊥
one_of true b e f g = true≢false f
one_of false true e f g = true≢false (sym e)
one_of false false e f g = true≢false (sym g)

false_of : (b : Bool) → (b ≡ true → ⊥) → b ≡ false
false_of true n = absurd (n refl)
false_of false n = refl

pub free_is_none : (me at label : Name) → is_free_label me at label ≡ true → (at ≢ me) → Contains java_words label → ⊥
unfolding is_free_label
free_is_none me at label e other reserved =
    one_of (bytes_eq at me) (list_any (bytes_eq label) java_words) e (false_of _ (λ t. other ((bytes_eq-Decides at me).0 t)))
    (any_from label java_words reserved)

pub not_free : (me at label : Name) → is_free_label me at label ≡ false → (at ≢ me) × Contains java_words label
unfolding is_free_label
not_free me at label e =
    let h = neither (bytes_eq at me) (list_any (bytes_eq label) java_words) e in
    ((λ same. true≢false (sym ((bytes_eq-Decides at me).1 same) ∙ h.0)), any_to label java_words h.1)

both_same : (a b : Bool) → (a ≡ true → b ≡ true) → (b ≡ true → a ≡ true) → a ≡ b
both_same true b f g = sym (f refl)
both_same false true f g = g refl
both_same false false f g = refl

-- the program's test
pub reserved_by : (me at label : Name) (r : Bool) → IsTrue r ↔ Contains java_words label → (bytes_eq at me || not r) ≡ is_free_label me at
    label
unfolding is_free_label
reserved_by me at label r h =
    ap (λ b. bytes_eq at me || not b) (both_same r _ (λ t. any_from label java_words (h.0 t)) (λ t. h.1 (any_to label java_words t)))
