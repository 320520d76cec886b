-- Runs of bytes at the front.
use Rattle.std.proofs.Common.{◌≡◌, ℕ, suc, List, [], ◌∷◌, length, Bool, true, false, refl, ap, ◌∙◌}
use Rattle.std.proofs.lemmas.List.Sums.{take_while-cons}
use Rattle.mg_read.specs.Passes.{AllPasses, span}

pub span-true : (p : ℕ → Bool) (c : ℕ) (cs : List ℕ) → p c ≡ true → span p (c ∷ cs) ≡ suc (span p cs)
span-true p c cs h = ap length (take_while-cons p c cs) ∙ rw h refl

pub span-false : (p : ℕ → Bool) (c : ℕ) (cs : List ℕ) → p c ≡ false → span p (c ∷ cs) ≡ 0
span-false p c cs h = ap length (take_while-cons p c cs) ∙ rw h refl

-- all pass where the run is all
pub span_all : (p : ℕ → Bool) (xs : List ℕ) → AllPasses p xs → span p xs ≡ length xs
span_all p [] h = refl
span_all p (x ∷ xs) h = span-true p x xs h.0 ∙ ap suc (span_all p xs h.1)
