-- The search for the end of a comment.
use Rattle.std.proofs.Common.{◌≡◌, ℕ, ◌+◌, List, ◌∷◌, false, Option, Some, None, refl, sym, ap, ◌∙◌, arith}
use Rattle.std.specs.Prelude.{option_map}
use Rattle.mg_read.specs.inner.Fronts.{is_close, close_at}

-- a turn of the search keeps what it finds
pub close_more : (n : ℕ) (b : ℕ) (rest after : List ℕ) (total : Option ℕ) → rest ≡ b ∷ after → is_close rest ≡ false
    → option_map (λ k. n + k) (close_at rest) ≡ total → option_map (λ k. (n + 1) + k) (close_at after) ≡ total
close_more n b rest after total split unclosed so_far =
    let no_close : is_close (b ∷ after) ≡ false = sym (ap is_close split) ∙ unclosed in
    let step : close_at rest ≡ option_map (λ k. k + 1) (close_at after) = ap close_at split ∙ rw no_close refl in
    shift (close_at after) ∙ sym (ap (option_map (λ k. n + k)) step) ∙ so_far where
      shift : (o : Option ℕ) → option_map (λ k. (n + 1) + k) o ≡ option_map (λ k. n + k) (option_map (λ k. k + 1) o)
      shift None = refl
      shift (Some k) = let e : n + 1 + k ≡ n + (k + 1) = omega arith in ap (λ (z : ℕ). Some z) e
