-- What is met context by context.
use Rattle.std.proofs.Common.{◌≡◌, ℕ, ◌+◌, ◌<◌, ◌≤◌, List, [], ◌∷◌, ◌++◌, length, get_or, drop, flat_map, refl, sym, ap, ◌∙◌, arith}
use Rattle.std.proofs.Common.{append_assoc}
use Rattle.std.proofs.lemmas.List.{at_drop_more, at_drop_all, append-nil}
use Rattle.jv_core.specs.Tree.{Program}
use Rattle.use_verdict.specs.declared.met.Usages.{Usages}
use Rattle.use_verdict.specs.Met.{AreUsages}
use Rattle.use_verdict.specs.Verdict.{AreAnswer}

pub nothing_left : {A : Type 0} (xs : List A) → length xs ≡ 0 → xs ≡ []
nothing_left [] h = refl
nothing_left (x ∷ xs) h = absurd (omega (arith, h))

module _ {X A : Type 0} (f : X → List A) (xs : List X) (d : X) (i : ℕ) where
  pub met_more : (out new total : List A) → i < length xs → new ≡ out ++ f (get_or xs i d) → out ++ flat_map f (drop i xs) ≡ total →
      new ++ flat_map f (drop (i + 1) xs) ≡ total
  met_more out new total lt e h =
      ap (λ r. r ++ flat_map f (drop (i + 1) xs)) e ∙ append_assoc out (f (get_or xs i d)) (flat_map f (drop (i + 1) xs))
      ∙ ap (λ r. out ++ r) (sym (at_drop_more (flat_map f) xs i d lt)) ∙ h

  pub met_all : (out total : List A) → length xs ≤ i → out ++ flat_map f (drop i xs) ≡ total → out ≡ total
  met_all out total past h = sym (append-nil out) ∙ ap (λ r. out ++ r) (sym (at_drop_all (flat_map f) xs i past)) ∙ h

-- the least tables under which no demand fails are the answer
pub no_demand : (p : Program) (u : Usages) (are : AreUsages p u) → length u.failed.items ≡ 0 → AreAnswer p u.tables
no_demand p u are h = record {
  made = are.made;
  least = are.least;
  solves = record { closed = are.least.closed; none_fails = sym are.failed ∙ nothing_left u.failed.items h };
}
