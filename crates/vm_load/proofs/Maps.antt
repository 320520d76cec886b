-- Lists that are mapped twice.
use Rattle.std.proofs.Common.{◌≡◌, ℕ, zero, suc, ◌≤◌, List, [], ◌∷◌, length, map, take, refl, sym, ap, ◌∙◌, arith}
use Rattle.std.proofs.Common.{◌+◌, ◌<◌, ◌++◌, get_or, Result, Ok, Err, IfOk, OnOk}
use Rattle.std.proofs.lemmas.List.{take_more, map-append}
use Rattle.std.proofs.lemmas.Simd.{map-map}

take_whole : {A : Type 0} (i : ℕ) (xs : List A) → length xs ≤ i → take i xs ≡ xs
take_whole zero [] h = refl
take_whole zero (x ∷ xs) h = absurd (omega arith)
take_whole (suc i) [] h = refl
take_whole (suc i) (x ∷ xs) h = ap (λ l. x ∷ l) (take_whole i xs (omega arith))

-- a loop that maps is through
pub mapped_twice : {A B C : Type 0} (f : B → C) (g : A → B) (xs : List A) (ys : List C) (i : ℕ) → ys ≡ map (λ x. f (g x)) (take i xs) →
    length xs ≤ i →
    ys ≡ map f (map g xs)
mapped_twice f g xs ys i e h = e ∙ ap (map (λ x. f (g x))) (take_whole i xs h) ∙ sym (map-map f g xs)

-- one more that is mapped
pub mapped_more : {A C : Type 0} (f : A → C) (xs : List A) (ys zs : List C) (i : ℕ) (d : A) (y : C) → i < length xs → ys ≡ map f (take i xs)
    → zs ≡ ys ++ y ∷ [] →
    y ≡ f (get_or xs i d) → zs ≡ map f (take (i + 1) xs)
mapped_more f xs ys zs i d y lt e g h =
    g ∙ ap (λ l. l ++ y ∷ []) e ∙ ap (λ c. map f (take i xs) ++ c ∷ []) h ∙ sym (map-append f (take i xs) (get_or xs i d ∷ [])) ∙
    ap (map f) (sym (take_more xs i d lt))

-- what an answer gives, said otherwise
pub if_ok : {A E : Type 0} (x y : A) → x ≡ y → (r : Result A E) → IfOk r (λ n. n ≡ x) → IfOk r (λ n. n ≡ y)
if_ok x y e (Ok n) h = h ∙ e
if_ok x y e (Err m) h = tt

pub if_ok_view : {A B E : Type 0} (f : A → B) (x y : B) → x ≡ y → (r : Result A E) → IfOk r (λ a. f a ≡ x) → IfOk r (λ a. f a ≡ y)
if_ok_view f x y e (Ok a) h = h ∙ e
if_ok_view f x y e (Err m) h = tt

-- what holds anyway
pub always : {A E : Type 0} {P : Type 0} (r : Result A E) → P → OnOk r P
always (Ok a) h = h
always (Err m) h = tt
