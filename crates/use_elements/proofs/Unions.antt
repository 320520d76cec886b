-- The members of either set, as the code joins them.
use Rattle.std.proofs.Common.{◌≡◌, ◌<◌, ◌≤◌, Bool, true, false, [], ◌∷◌, length, refl, ap, ◌∙◌, arith}
use Rattle.std.specs.Prelude.{◌||◌}
use Rattle.mg_sets.specs.Sets.{join}
use Rattle.use_rules.specs.Elements.{Set, union}

or_turned : (a b : Bool) → (a || b) ≡ (b || a)
or_turned true true = refl
or_turned true false = refl
or_turned false true = refl
or_turned false false = refl

-- a set takes in one that is no wider
pub join-union : (s t : Set) → length t ≤ length s → join s t ≡ union s t
join-union [] [] h = refl
join-union [] (b ∷ t) h = absurd (omega arith)
join-union (a ∷ s) [] h = refl
join-union (a ∷ s) (b ∷ t) h = ap (λ r. (a || b) ∷ r) (join-union s t (omega arith))

-- a set is taken in by one that is wider
pub union-turned : (s t : Set) → length s < length t → join t s ≡ union s t
union-turned [] [] h = refl
union-turned [] (b ∷ t) h = refl
union-turned (a ∷ s) [] h = absurd (omega arith)
union-turned (a ∷ s) (b ∷ t) h = ap (λ x. x ∷ join t s) (or_turned b a) ∙ ap (λ r. (a || b) ∷ r) (union-turned s t (omega arith))

pub ruleset unions = (join-union, union-turned)
