-- The step of the loop over the roles.
use Rattle.std.proofs.Common.{◌≡◌, ◌↔◌, ◌<◌, ◌+◌, ℕ, Bool, true, false, not, ◌||◌, IsTrue, List, [], ◌∷◌, ◌++◌, map, length, get_or, take}
use Rattle.std.proofs.Common.{Contains, Some, Decides, refl, sym, ap, subst, ◌∙◌, ⊎_elim, true≢false}
use Rattle.std.proofs.lemmas.List.{take_more, map-append}
use Rattle.std.proofs.lemmas.List.Elements.{Contains-push, Contains-push_cases, Contains-append_left}
use Rattle.std.proofs.lemmas.Slice.Eq.{bytes_eq-Decides}
use Rattle.std.specs.Str.{bytes_eq}
use Rattle.mg_text.specs.Call.{Name}
use Rattle.mg_read.specs.First.{Judged, with_earlier}
use Rattle.mg_read.proofs.Scanning.{Left, left_here, left_later}
use Rattle.mg_read.specs.Culprit.{culprit}
use Rattle.scr_judge.specs.inner.Seen.{Names, none, with_name}
use Rattle.scr_judge.specs.inner.Listed.{ListedTwice}
use Rattle.scr_tree.specs.Written.{role_name}
use Rattle.scr_tree.specs.declared.written.Role.{Role}
use Rattle.scr_judge.proofs.Members.{Contains-nil}

-- the set has the names of a list and no others
pub record HasNames (has : Names) (names : List Name) : Type 0 where
  pub each : (q : Name) → IsTrue (has q) ↔ Contains names q

pub has_none : (has : Names) → has ≡ none → HasNames has []
has_none has e = record { each = λ q. (λ t. absurd (true≢false (sym t ∙ ap (λ h. h q) e)), λ c. absurd (Contains-nil q c)) }

pub has_more : (t b : Bool) (names : List Name) (name q : Name) → Decides t (name ≡ q) → (IsTrue b ↔ Contains names q) →
    IsTrue (t || b) ↔ Contains (names ++ name ∷ []) q
has_more true b names name q d h = (λ _. subst (Contains (names ++ name ∷ [])) (d.0 refl) (Contains-push names name), λ _. refl)
has_more false b names name q d h = (
  λ has. Contains-append_left names (name ∷ []) q (h.0 has),
  λ k. ⊎_elim (λ old. h.1 old) (λ same. absurd (true≢false (sym (d.1 same)))) (Contains-push_cases names name q k),
)

pub true_from_not : (b : Bool) → not b ≡ false → b ≡ true
true_from_not true e = refl
true_from_not false e = sym e

pub false_from_not : (b : Bool) → not b ≡ true → b ≡ false
false_from_not true e = sym e
false_from_not false e = refl

module _ {X : Type 0} (key : X → Name) (has : Names) (xs : List X) (i : ℕ) (x : X) (within : i < length xs) (is : x ≡ get_or xs i x)
    (h : HasNames has (map key (take i xs))) where
  names_pushed : map key (take i xs) ++ key x ∷ [] ≡ map key (take (i + 1) xs)
  names_pushed = sym (map-append key (take i xs) (x ∷ [])) ∙ ap (map key) (ap (λ y. take i xs ++ y ∷ []) is ∙ sym (take_more xs i x within))

  pub has_one_more : (name : Name) → name ≡ key x → (now : Names) → now ≡ with_name name has → HasNames now (map key (take (i + 1) xs))
  has_one_more name same now e = subst (λ f. HasNames f (map key (take (i + 1) xs))) (sym (e ∙ ap (λ n. with_name n has) same)) (record {
    each = λ q. subst (λ ns. IsTrue (with_name (key x) has q) ↔ Contains ns q) names_pushed
        (has_more (bytes_eq (key x) q) (has q) (map key (take i xs)) (key x) q (bytes_eq-Decides (key x) q) (h.each q));
  })

module _ (has : Names) (xs : List Role) (i : ℕ) (x : Role) (within : i < length xs) (is : x ≡ get_or xs i x)
    (h : HasNames has (map role_name (take i xs))) (name : Name) (same : name ≡ x.name)
    (l : Left ListedTwice xs i) where
  pub repeated_role : not (has name) ≡ false → Judged ListedTwice (with_earlier xs) (Some (culprit x.place x.name))
  repeated_role e = left_here ListedTwice l x within is _ (refl, (h.each x.name).0 (ap has (sym same) ∙ true_from_not _ e))

  pub new_role : not (has name) ≡ true → Left ListedTwice xs (i + 1)
  new_role e = left_later ListedTwice l x within is
      (λ c a. true≢false (sym ((h.each x.name).1 a.1) ∙ ap has (sym same) ∙ false_from_not _ e))
