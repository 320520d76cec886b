-- Facts on lists that the proofs need.
use Rattle.std.proofs.Common.{◌≡◌, ◌≢◌, ℕ, zero, suc, ◌<◌, true, List, [], ◌∷◌, length, map, Some, refl, subst, arith}
use Rattle.std.specs.Prelude.{slice_get, slice_index_or, Contains}
use Rattle.std.specs.List.{AllByRecursion}
use Rattle.std.specs.Str.{bytes_eq}
use Rattle.std.proofs.lemmas.Slice.Eq.{bytes_eq-Decides}
use Rattle.mg_text.specs.Call.{Name}

pub some_is : {A : Type 0} {a b : A} → Some a ≡ Some b → a ≡ b
some_is e = cc

pub same_name : (x : Name) → bytes_eq x x ≡ true
same_name x = (bytes_eq-Decides x x).1 refl

pub name_is : (x y : Name) → bytes_eq x y ≡ true → x ≡ y
name_is x y e = (bytes_eq-Decides x y).0 e

pub each_at : {A : Type 0} (P : A → Type 0) (xs : List A) (i : ℕ) {x : A} → AllByRecursion P xs → slice_get xs i ≡ Some x → P x
each_at P [] i all e = absurd (cc)
each_at P (x ∷ xs) zero all e = subst P (some_is e) all.0
each_at P (x ∷ xs) (suc i) all e = each_at P xs i all.1 e

pub in_tail : {A : Type 0} (y x : A) (xs : List A) → Contains (y ∷ xs) x → y ≢ x → Contains xs x
in_tail y x xs c n = go c.0 c.1 c.2
  where
    go : (k : ℕ) → k < length (y ∷ xs) → slice_index_or (y ∷ xs) k x ≡ x → Contains xs x
    go zero lt e = absurd (n e)
    go (suc k) lt e = (k, omega arith, e)

in_bound : {k n : ℕ} → k < n → suc k < suc n
in_bound e = omega arith

pub in_more : {A : Type 0} (y x : A) (xs : List A) → Contains xs x → Contains (y ∷ xs) x
in_more y x xs c = (suc c.0, in_bound c.1, c.2)

pub is_first : {A : Type 0} (x : A) (xs : List A) → Contains (x ∷ xs) x
is_first x xs = (zero, omega arith, refl)

pub none_in : {A : Type 0} (x : A) → Contains [] x → ⊥
none_in x c = absurd (omega arith)

pub get_in : {A B : Type 0} (f : A → B) (xs : List A) (i : ℕ) (x : A) → slice_get xs i ≡ Some x → Contains (map f xs) (f x)
get_in f [] i x e = absurd (cc)
get_in f (y ∷ xs) zero x e = subst (λ z. Contains (f y ∷ map f xs) (f z)) (some_is e) (is_first (f y) (map f xs))
get_in f (y ∷ xs) (suc i) x e = in_more (f y) (f x) (map f xs) (get_in f xs i x e)
