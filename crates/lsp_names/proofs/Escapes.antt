-- What the set of escaped bytes holds, and so what a name becomes.
use Rattle.std.proofs.Common.{◌≡◌, ℕ, ◌<◌, Bool, true, false, ◌||◌, not, List, [], ◌∷◌, ◌++◌, nat_lt, if◌then◌else◌}
use Rattle.std.proofs.Common.{refl, sym, ap, ◌∙◌, arith}
use Rattle.std.proofs.lemmas.Bool.{agree_below, agree_below_at}
use Rattle.std.proofs.lemmas.Bool.Decides.{nat_tests}
use Rattle.std.specs.List.{flat_map}
use Rattle.percent_encoding.specs.AsciiSet.{contains, should_percent_encode}
use Rattle.percent_encoding.specs.Percent.{percent_encode_byte, encode_byte, percent_encode}
use Rattle.lsp_names.specs.declared.naming.TheConstants.{ESCAPED}
use Rattle.lsp_names.specs.Names.{stands, escaped}

below : agree_below (contains ESCAPED) (λ b. not (stands b)) 128 ≡ true
below = refl

-- what is no ASCII doesn't stand
above : (b : ℕ) → nat_lt b 128 ≡ false → stands b ≡ false
above b e = grind (arith, nat_tests)

agree : (b : ℕ) → should_percent_encode ESCAPED b ≡ not (stands b)
unfolding should_percent_encode
agree b = go (nat_lt b 128) refl where
  go : (t : Bool) → nat_lt b 128 ≡ t → (not (nat_lt b 128) || contains ESCAPED b) ≡ not (stands b)
  go true e =
      ap (λ (t : Bool). not t || contains ESCAPED b) e ∙ agree_below_at (contains ESCAPED) (λ b. not (stands b)) 128 b below (small b e) where
        small : (b : ℕ) → nat_lt b 128 ≡ true → b < 128
        small b e = grind (arith, nat_tests)
  go false e = ap (λ (t : Bool). not t || contains ESCAPED b) e ∙ sym (ap not (above b e))

turned : (t : Bool) (xs ys : List ℕ) → (if not t then xs else ys) ≡ (if t then ys else xs)
turned true xs ys = refl
turned false xs ys = refl

one : (b : ℕ) → encode_byte ESCAPED b ≡ (if stands b then b ∷ [] else percent_encode_byte b)
one b = ap (λ (t : Bool). if t then percent_encode_byte b else b ∷ []) (agree b) ∙ turned (stands b) (percent_encode_byte b) (b ∷ [])

pub escapes : (bytes : List ℕ) → percent_encode ESCAPED bytes ≡ escaped bytes
unfolding percent_encode
escapes [] = refl
escapes (b ∷ bs) =
    ap (λ (xs : List ℕ). xs ++ flat_map (encode_byte ESCAPED) bs) (one b)
    ∙ ap (λ (xs : List ℕ). (if stands b then b ∷ [] else percent_encode_byte b) ++ xs) (escapes bs)
