-- The loop over the characters of a text.
use Rattle.std.proofs.Common.{◌≡◌, ℕ, ◌+◌, ◌<◌, ◌≤◌, List, [], ◌∷◌, ◌++◌, length, nat_lt, Bool, true, false, refl, ap, ◌∙◌, arith}
use Rattle.std.proofs.Common.{length-append}
use Rattle.std.specs.List.{flat_map}
use Rattle.std.proofs.lemmas.Grind.{flat_map-append}
use Rattle.std.proofs.lemmas.Bool.Decides.{nat_tests}
use Rattle.cls_tree.specs.Modified.{modified_char}

abbrev pub sized : List ℕ → ℕ
sized chars = length (flat_map modified_char chars)

-- the size so far, or more than the most
pub record IsCounted (size : ℕ) (chars : List ℕ) : Type 0 where
  pub few : size ≤ 65541
  pub exact : size ≤ 65535 → size ≡ sized chars
  pub past : 65535 < size → 65535 < sized chars

pub none_counted : IsCounted 0 []
none_counted = record { few = omega arith; exact = λ h. refl; past = λ h. absurd (omega (arith, h)) }

one_more : (chars : List ℕ) (c : ℕ) → sized (chars ++ c ∷ []) ≡ sized chars + length (modified_char c)
one_more chars c =
    let all : flat_map modified_char (chars ++ c ∷ []) ≡ flat_map modified_char chars ++ flat_map modified_char (c ∷ [])
    = flat_map-append modified_char chars (c ∷ []) in
    let one : length (flat_map modified_char (c ∷ [])) ≡ length (modified_char c) + 0 = length-append (modified_char c) [] in
    ap length all ∙ length-append (flat_map modified_char chars) (flat_map modified_char (c ∷ [])) ∙ omega (arith, one)

-- a character more is counted
pub counted_more : (size n : ℕ) (chars : List ℕ) (c : ℕ) → n ≡ length (modified_char c) → n ≤ 6 → size ≤ 65535 → IsCounted size chars →
    IsCounted (size + n) (chars ++ c ∷ [])
counted_more size n chars c is few low l =
    let e = one_more chars c in
    let s = l.exact low in
    record {
      few = omega (arith, few, low);
      exact = λ h. omega (arith, e, s, is);
      past = λ h. omega (arith, e, s, is, h);
    }

-- the test of the count is that of the size
pub told_by : (size : ℕ) (chars : List ℕ) → IsCounted size chars → nat_lt 65535 size ≡ nat_lt 65535 (sized chars)
told_by size chars l = go (nat_lt 65535 size) refl
  where
    go : (b : Bool) → nat_lt 65535 size ≡ b → b ≡ nat_lt 65535 (sized chars)
    go true e = let h : 65535 < size = grind (arith, nat_tests, e) in let p = l.past h in grind (arith, nat_tests, p)
    go false e = let h : size ≤ 65535 = grind (arith, nat_tests, e) in let p = l.exact h in grind (arith, nat_tests, p, h)
