-- The parenthesis that closes, one byte further on.
use Rattle.std.proofs.Common.{◌≡◌, ℕ, zero, suc, ◌+◌, ◌<◌, List, [], ◌∷◌, length, drop, get_or, refl, ap, ◌∙◌, arith, add-one}
use Rattle.lsp_offers.specs.Repaired.{open_behind, closing}

closing_next : (bs : List ℕ) (n k d : ℕ) → 0 < n → k < length bs →
    closing (open_behind n (get_or bs k d)) (drop (suc k) bs) ≡ closing n (drop k bs)
closing_next bs zero k d some less = absurd (omega arith)
closing_next [] (suc n) k d some less = absurd (omega arith)
closing_next (b ∷ bs) (suc n) zero d some less = refl
closing_next (b ∷ bs) (suc n) (suc k) d some less = closing_next bs (suc n) k d some (omega arith)

-- behind a byte
pub closing_more : (bs : List ℕ) (n k d m : ℕ) → 0 < n → k < length bs → m ≡ open_behind n (get_or bs k d) →
    closing m (drop (k + 1) bs) ≡ closing n (drop k bs)
closing_more bs n k d m some less is =
    ap (λ (o : ℕ). closing o (drop (k + 1) bs)) is
    ∙ ap (λ (o : ℕ). closing (open_behind n (get_or bs k d)) (drop o bs)) (add-one k)
    ∙ closing_next bs n k d some less
