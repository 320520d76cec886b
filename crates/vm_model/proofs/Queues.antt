-- What is given of a queue, and the names of roles.
use Rattle.std.proofs.Common.{◌≡◌, ℕ, zero, suc, ◌+◌, ◌<◌, Bool, false, List, [], ◌∷◌, ◌++◌, length, take, drop, Option, Some}
use Rattle.std.proofs.Common.{None, slice_get, get_or, position, option_to_list, refl, sym, ap, ◌∙◌, arith}
use Rattle.std.specs.List.{IsDistinct, AllByRecursion}
use Rattle.std.specs.Str.{bytes_eq}
use Rattle.std.proofs.lemmas.Bool.Decides.{nat_tests}
use Rattle.std.proofs.lemmas.Cmp.{nat_list_eq_equiv}
use Rattle.std.proofs.Common.{Result, Ok, Err, OnOk, OnErr}
use Rattle.mg_text.specs.Interned.{with_text}
use Rattle.std.proofs.lemmas.List.{take_more}

-- what `pop_front` gives is the first of the queue, where it has one
pub first_given : {X : Type 0} (xs ys : List X) (r : Option X) → xs ≡ option_to_list r ++ ys → ys ≡ drop 1 xs → r ≡ slice_get xs 0
first_given [] ys None e rest = refl
first_given (x ∷ xs) ys None e rest = absurd (omega (arith, ap length e, ap length rest))
first_given xs ys (Some x) e rest = ap (λ l. slice_get l 0) (sym e)

-- a fact of one answer gives another
pub on_ok : {A E P Q : Type 0} → (P → Q) → (r : Result A E) → OnOk r P → OnOk r Q
on_ok f (Ok a) h = f h
on_ok f (Err e) h = tt

pub on_err : {A E P Q : Type 0} → (P → Q) → (r : Result A E) → OnErr r P → OnErr r Q
on_err f (Ok a) h = tt
on_err f (Err e) h = f h

-- roles that are distinct: none of them stands among those before it
no_match : {X : Type 0} (p : X → Bool) (x : X) (xs : List X) → p x ≡ false → position p xs ≡ None → position p (x ∷ xs) ≡ None
no_match p x xs h none = rw h (grind (arith, nat_tests))

sym_false : (x y : List ℕ) → bytes_eq x y ≡ false → bytes_eq y x ≡ false
sym_false x y h = rw (nat_list_eq_equiv.symm y x) h

all_at : {X : Type 0} (P : X → Type 0) (xs : List X) (k : ℕ) (d : X) → AllByRecursion P xs → k < length xs → P (get_or xs k d)
all_at P [] k d h l = absurd (omega arith)
all_at P (x ∷ xs) zero d h l = h.0
all_at P (x ∷ xs) (suc k) d h l = all_at P xs k d h.1 (omega arith)

pub not_before : (xs : List (List ℕ)) (k : ℕ) (d : List ℕ) → IsDistinct bytes_eq xs → k < length xs →
    position (bytes_eq (get_or xs k d)) (take k xs) ≡ None
unfolding IsDistinct
not_before [] k d h l = absurd (omega arith)
not_before (x ∷ xs) zero d h l = refl
not_before (x ∷ xs) (suc k) d h l =
    let lt : k < length xs = omega arith in
    no_match (bytes_eq (get_or xs k d)) x (take k xs) (sym_false x (get_or xs k d) (all_at (λ y. bytes_eq x y ≡ false) xs k d h.0 lt))
    (not_before xs k d h.1 lt)

-- one more of distinct names goes last
pub one_more : (roles : List (List ℕ)) (k : ℕ) (role : List ℕ) (old new : List (List ℕ)) → IsDistinct bytes_eq roles → k < length roles →
    role ≡ get_or roles k role →
    old ≡ take k roles → new ≡ with_text old role → new ≡ take (k + 1) roles
one_more roles k role old new distinct lt at before added =
    let none : position (bytes_eq role) old ≡ None = rw (before, at) (not_before roles k role distinct lt) in
    let same : with_text old role ≡ old ++ role ∷ [] = rw none refl in
    added ∙ same ∙ ap (λ l. l ++ role ∷ []) before ∙ ap (λ r. take k roles ++ r ∷ []) at ∙ sym (take_more roles k role lt)
