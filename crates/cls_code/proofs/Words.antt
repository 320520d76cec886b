-- Numbers of four bytes, one behind the other.
use Rattle.std.proofs.Common.{◌≡◌, ℕ, ℤ, zero, suc, ◌+◌, ◌*◌, ◌<◌, ◌≤◌, List, [], ◌∷◌, ◌++◌, length, take, drop, refl, sym, ap, ◌∙◌}
use Rattle.std.proofs.Common.{add-one, append_assoc, length-append, length-drop, arith}
use Rattle.std.proofs.Math.Seq.{take-add}
use Rattle.std.proofs.lemmas.List.{drop-drop, drop_at}
use Rattle.std.specs.List.{flat_map, AllByRecursion}
use Rattle.std.specs.Int.RustNames.{FitsSigned}
use mir.Syntax.{w32}
use Rattle.cls_tree.specs.Layout.{s4}
use Rattle.cls_code.specs.Code.{s4_at}
use Rattle.cls_code.specs.Inner.{words}
use Rattle.cls_code.proofs.Spelled.{IsBytes, bytes_drop, signed4, told4, signed_back4, longs4}

words_snoc : (n : ℕ) (bytes : List ℕ) → words (suc n) bytes ≡ words n bytes ++ s4_at (4 * n) bytes ∷ []
unfolding words
words_snoc zero bytes = refl
words_snoc (suc n) bytes =
    let place : 4 + 4 * n ≡ 4 * suc n = omega arith in
    ap (λ ws. s4_at 0 bytes ∷ ws) (words_snoc n (drop 4 bytes)
    ∙ ap (λ bs. words n (drop 4 bytes) ++ s4_at 0 bs ∷ []) (drop-drop (4 * n) 4 bytes ∙ ap (λ k. drop k bytes) place))

pub words_more : (n : ℕ) (bytes : List ℕ) → words (n + 1) bytes ≡ words n bytes ++ s4_at (4 * n) bytes ∷ []
words_more n bytes = ap (λ k. words k bytes) (add-one n) ∙ words_snoc n bytes

pub length-words : (n : ℕ) (bytes : List ℕ) → length (words n bytes) ≡ n
unfolding words
length-words zero bytes = refl
length-words (suc n) bytes = ap suc (length-words n (drop 4 bytes))

pub words_fit : (n : ℕ) (bytes : List ℕ) → IsBytes bytes → AllByRecursion (FitsSigned w32) (words n bytes)
unfolding words
words_fit zero bytes fits = tt
words_fit (suc n) bytes fits = (signed4 0 bytes fits, words_fit n (drop 4 bytes) (bytes_drop 4 bytes fits))

pub words_told : (n : ℕ) (bytes : List ℕ) → 4 * n ≤ length bytes → IsBytes bytes → flat_map s4 (words n bytes) ≡ take (4 * n) bytes
unfolding words
words_told zero bytes le fits = refl
words_told (suc n) bytes le fits =
    let place : 4 + 4 * n ≡ 4 * suc n = omega arith in
    let ih = words_told n (drop 4 bytes) (omega (arith, length-drop 4 bytes)) (bytes_drop 4 bytes fits) in
    ap (λ f. f ++ flat_map s4 (words n (drop 4 bytes))) (told4 0 bytes (omega arith) fits)
    ∙ ap (λ r. take 4 bytes ++ r) ih ∙ sym (take-add 4 (4 * n) bytes) ∙ ap (λ k. take k bytes) place

pub words_back : (zs : List ℤ) (rest : List ℕ) → AllByRecursion (FitsSigned w32) zs → words (length zs) (flat_map s4 zs ++ rest) ≡ zs
unfolding words
words_back [] rest all = refl
words_back (z ∷ zs) rest all =
    let e : (s4 z ++ flat_map s4 zs) ++ rest ≡ s4 z ++ (flat_map s4 zs ++ rest) = append_assoc (s4 z) (flat_map s4 zs) rest in
    ap (λ bs. s4_at 0 bs ∷ words (length zs) (drop 4 bs)) e
    ∙ ap (λ y. y ∷ words (length zs) (drop 4 (s4 z ++ (flat_map s4 zs ++ rest)))) (signed_back4 0 [] z (flat_map s4 zs ++ rest) refl all.0)
    ∙ ap (λ bs. z ∷ words (length zs) bs) (drop_at (s4 z) (flat_map s4 zs ++ rest) 4 (longs4 z))
    ∙ ap (λ ys. z ∷ ys) (words_back zs rest all.1)

pub length-words_bytes : (zs : List ℤ) → length (flat_map s4 zs) ≡ 4 * length zs
length-words_bytes [] = refl
length-words_bytes (z ∷ zs) = length-append (s4 z) (flat_map s4 zs) ∙ four _ _ (length zs) (longs4 z) (length-words_bytes zs)
  where
    four : (a b n : ℕ) → a ≡ 4 → b ≡ 4 * n → a + b ≡ 4 * suc n
    four a b n x y = omega arith
