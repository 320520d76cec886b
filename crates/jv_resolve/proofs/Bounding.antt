-- What holds of each element of a list, one after another.
use Rattle.std.proofs.Common.{◌≡◌, ℕ, ◌+◌, ◌<◌, ◌≤◌, List, map, length, get_or, drop, Option, Some, None, sym, ap, subst, ◌∙◌}
use Rattle.std.specs.Prelude.{Result, Ok, Err, OnOk}
use Rattle.std.specs.List.{AllByRecursion}
use Rattle.jv_resolve.proofs.AtIndex.{drop_at, drop_end}

module _ {S X : Type 0} (P : X → Type 0) (see : S → X) (xs : List S) (i : ℕ) (so_far : AllByRecursion P (map see (drop i xs)) →
    AllByRecursion P (map see xs)) where
  pub all_more : (s : S) → i < length xs → s ≡ get_or xs i s → P (see s) → AllByRecursion P (map see (drop (i + 1) xs)) →
      AllByRecursion P (map see xs)
  all_more s within is p rest = so_far (subst (AllByRecursion P) (sym (ap (map see) (drop_at xs i s within is))) (p, rest))

  pub all_done : length xs ≤ i → AllByRecursion P (map see xs)
  all_done end = so_far (subst (AllByRecursion P) (sym (ap (map see) (drop_end xs i end))) tt)

pub none_there : {X A : Type 0} (o : Option X) (x : X) → None ≡ o → o ≡ Some x → A
none_there o x h k = let no : ⊥ = cc in absurd no

some_same : {X : Type 0} (x y : X) → Some x ≡ Some y → x ≡ y
some_same x y e = cc

-- what holds of the one that is there holds of each that is
pub ok_there : {X E V : Type 0} (P : X → Type 0) (r : Result V E) (o : Option X) (x : X) → Some x ≡ o → OnOk r (P x) →
    OnOk r ((y : X) → o ≡ Some y → P y)
ok_there P (Ok v) o x h p = λ y k. subst P (some_same x y (h ∙ k)) p
ok_there P (Err e) o x h p = tt
