-- Places of a file, by the offsets of bytes.
use Rattle.std.proofs.Common.{◌≡◌, ◌≤◌, ◌⊎◌, ℕ, List, length, take, Option, Some, None, sym, ◌∙◌, subst, arith}
use Rattle.std.proofs.lemmas.Grind.{common_steps}
use Rattle.mg_text.specs.Places.{start_of, place_after}
use Rattle.mg_text.specs.declared.place.Place.{Place}
use Rattle.mg_read.specs.Within.{IsWithin}

pub at_start : (file : ℕ) (bytes : List ℕ) (place : Place) → place ≡ start_of file → IsWithin file bytes place
at_start file bytes place e = record { behind = 0; there = omega arith; is = e }

pub at_offset : (file : ℕ) (bytes : List ℕ) (place : Place) (k : ℕ) → k ≤ length bytes → place ≡ place_after (start_of file) (take k bytes)
    →
    IsWithin file bytes place
at_offset file bytes place k le e = record { behind = k; there = le; is = e }

pub ruleset offsets = (common_steps, at_start, at_offset)

-- what is answered with another place is answered
pub same_answer : {A : Type 0} (P : A → Type 0) (o p : Option A) → p ≡ o → ((a : A) → o ≡ Some a → P a) → (a : A) → p ≡ Some a → P a
same_answer P o p e h a g = h a (sym e ∙ g)

pub same_told : {A : Type 0} (o p : Option A) → p ≡ o → (a : A) → (o ≡ Some a) ⊎ (o ≡ None) → (p ≡ Some a) ⊎ (p ≡ None)
same_told {A} o p e a h = subst (λ (x : Option A). (x ≡ Some a) ⊎ (x ≡ None)) (sym e) h
