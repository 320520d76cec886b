-- What stands in a list.
use Rattle.std.proofs.Common.{◌≡◌, ◌⊎◌, ⊎_elim, inl, inr, List, [], ◌∷◌, map, Contains, subst, arith}
use Rattle.std.proofs.lemmas.List.Elements.{Contains-push, Contains-push_cases, Contains-append_left, Contains-append_right}
use Rattle.std.proofs.lemmas.List.Elements.{Contains-append_cases}

-- nothing stands in no list
pub Contains-nil : {X : Type 0} (x : X) → Contains [] x → ⊥
Contains-nil x h = omega (arith, h.1)

-- what stands in a list is its first item, or stands in the rest
pub Contains-cons_cases : {X : Type 0} (xs : List X) (y x : X) → Contains (y ∷ xs) x → (y ≡ x) ⊎ Contains xs x
Contains-cons_cases xs y x h =
    ⊎_elim (λ one. ⊎_elim (λ none. absurd (Contains-nil x none)) inl (Contains-push_cases [] y x one)) inr
    (Contains-append_cases (y ∷ []) xs x h)

pub Contains-first : {X : Type 0} (xs : List X) (x : X) → Contains (x ∷ xs) x
Contains-first xs x = Contains-append_left (x ∷ []) xs x (Contains-push [] x)

pub Contains-later : {X : Type 0} (xs : List X) (y x : X) → Contains xs x → Contains (y ∷ xs) x
Contains-later xs y x h = Contains-append_right (y ∷ []) xs x h

-- what stands in an image
pub Contains-image : {X Y : Type 0} (f : X → Y) (xs : List X) (x : X) → Contains xs x → Contains (map f xs) (f x)
Contains-image f [] x h = absurd (Contains-nil x h)
Contains-image {Y = Y} f (y ∷ xs) x h =
    ⊎_elim (λ same. subst (λ z. Contains (f y ∷ map f xs) (f z)) same (Contains-first (map f xs) (f y)))
    (λ more. Contains-later (map f xs) (f y) (f x) (Contains-image f xs x more)) (Contains-cons_cases xs y x h)

pub Contains-origin : {X Y : Type 0} (f : X → Y) (xs : List X) (z : Y) → Contains (map f xs) z → (x : X) × Contains xs x × (f x ≡ z)
Contains-origin f [] z h = absurd (Contains-nil z h)
Contains-origin {X} f (y ∷ xs) z h =
    ⊎_elim (λ e. (y, Contains-first xs y, e)) (λ more. let o = Contains-origin f xs z more in (o.0, Contains-later xs y o.0 o.1, o.2))
    (Contains-cons_cases (map f xs) (f y) z h)
