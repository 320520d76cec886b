-- Numbers of several bytes: what is read is spelled so, and what is spelled so is read.
use Rattle.std.proofs.Common.{◌≡◌, ℕ, ℤ, suc, ◌+◌, ◌*◌, ◌^◌, ◌<◌, ◌≤◌, List, [], ◌∷◌, ◌++◌, length, take, drop, get_or, refl, sym, ap, ◌∙◌}
use Rattle.std.proofs.Common.{append_assoc, length-append, length-take, arith, inl, inr, mod-eq_of_lt}
use Rattle.std.proofs.Math.Facts.{sfits_to_z, of_z-to_z, to_z-of_z, Fits-of_z, Fits-bits}
use Rattle.std.proofs.lemmas.Bool.{cases_lt}
use Rattle.std.proofs.lemmas.List.{drop_at, get_or-drop, get_or-take, get_or_past}
use Rattle.std.proofs.lemmas.Nat.{be_bytes_2, be_bytes_4}
use Rattle.std.specs.Int.{cast_signed, cast_unsigned}
use Rattle.std.specs.Int.RustNames.{FitsSigned}
use mir.Syntax.{Width, w8, w16, w32}
use mir.Val.{bits, Fits}
use Rattle.byteorder.specs.Endian.{big_number, big_bytes}
use Rattle.byteorder.specs.Numbers.{big_number-reads_back, big_from-lt, length-bytes_high_first}
use Rattle.cls_tree.specs.Layout.{u1, u2, u4, s1, s2, s4}
use Rattle.cls_code.specs.Code.{s4_at}
use Rattle.cls_code.specs.Inner.{u1_in, u2_in, s1_in, s2_in}

abbrev pub IsBytes : List ℕ → Type 0
IsBytes bytes = (i : ℕ) → get_or bytes i 0 < 256

pub bytes_drop : (n : ℕ) (bytes : List ℕ) → IsBytes bytes → IsBytes (drop n bytes)
bytes_drop n bytes h i = rw get_or-drop (h (n + i))

pub bytes_take : (n : ℕ) (bytes : List ℕ) → IsBytes bytes → IsBytes (take n bytes)
bytes_take n bytes h i =
    elim (cases_lt i n) [
      | inl lt ↦ rw (get_or-take n bytes i 0 lt) (h i)
      | inr le ↦ rw (get_or_past (take n bytes) i 0 (omega (arith, length-take n bytes))) (omega arith)
    ]

-- the number in n bytes is spelled by them
abbrev pub IsSpelled : ℕ → Type 0
IsSpelled n = (bytes : List ℕ) → n ≤ length bytes → IsBytes bytes → big_bytes n (big_number n bytes) ≡ take n bytes

pub spelled1 : IsSpelled 1
spelled1 [] le fits = absurd (omega arith)
spelled1 (a ∷ bytes) le fits = let lt : a < 256 = fits 0 in let e : a * 1 + 0 ≡ a = omega arith in rw (e, mod-eq_of_lt lt) refl

pub spelled2 : IsSpelled 2
spelled2 [] le fits = absurd (omega arith)
spelled2 (a ∷ []) le fits = absurd (omega arith)
spelled2 (a ∷ b ∷ bytes) le fits = be_bytes_2 (a ∷ b ∷ []) (big_number 2 (a ∷ b ∷ bytes)) refl (bytes_take 2 (a ∷ b ∷ bytes) fits)
    (omega arith)

pub spelled4 : IsSpelled 4
spelled4 [] le fits = absurd (omega arith)
spelled4 (a ∷ []) le fits = absurd (omega arith)
spelled4 (a ∷ b ∷ []) le fits = absurd (omega arith)
spelled4 (a ∷ b ∷ c ∷ []) le fits = absurd (omega arith)
spelled4 (a ∷ b ∷ c ∷ d ∷ bytes) le fits = be_bytes_4 (a ∷ b ∷ c ∷ d ∷ []) (big_number 4 (a ∷ b ∷ c ∷ d ∷ bytes)) refl
    (bytes_take 4 (a ∷ b ∷ c ∷ d ∷ bytes) fits) (omega arith)

pub below1 : (bytes : List ℕ) → IsBytes bytes → big_number 1 bytes < 2 ^ 8
below1 bytes fits = omega (arith, big_from-lt 0 1 bytes fits)

pub below2 : (bytes : List ℕ) → IsBytes bytes → big_number 2 bytes < 2 ^ 16
below2 bytes fits = omega (arith, big_from-lt 0 2 bytes fits)

pub below4 : (bytes : List ℕ) → IsBytes bytes → big_number 4 bytes < 2 ^ 32
below4 bytes fits = omega (arith, big_from-lt 0 4 bytes fits)

fits1 : (bytes : List ℕ) → IsBytes bytes → Fits w8 (big_number 1 bytes)
fits1 bytes fits = record { fits = below1 bytes fits }

fits2 : (bytes : List ℕ) → IsBytes bytes → Fits w16 (big_number 2 bytes)
fits2 bytes fits = record { fits = below2 bytes fits }

fits4 : (bytes : List ℕ) → IsBytes bytes → Fits w32 (big_number 4 bytes)
fits4 bytes fits = record { fits = below4 bytes fits }

-- a signed number fits, and is spelled by its bytes
pub signed1 : (bytes : List ℕ) → IsBytes bytes → FitsSigned w8 (s1_in bytes)
signed1 bytes fits = sfits_to_z (fits1 bytes fits)

pub signed2 : (bytes : List ℕ) → IsBytes bytes → FitsSigned w16 (s2_in bytes)
signed2 bytes fits = sfits_to_z (fits2 bytes fits)

pub signed4 : (n : ℕ) (bytes : List ℕ) → IsBytes bytes → FitsSigned w32 (s4_at n bytes)
signed4 n bytes fits = sfits_to_z (fits4 (drop n bytes) (bytes_drop n bytes fits))

pub told1 : (bytes : List ℕ) → 1 ≤ length bytes → IsBytes bytes → s1 (s1_in bytes) ≡ take 1 bytes
told1 bytes le fits = ap u1 (of_z-to_z (fits1 bytes fits)) ∙ spelled1 bytes le fits

pub told2 : (bytes : List ℕ) → 2 ≤ length bytes → IsBytes bytes → s2 (s2_in bytes) ≡ take 2 bytes
told2 bytes le fits = ap u2 (of_z-to_z (fits2 bytes fits)) ∙ spelled2 bytes le fits

pub told4 : (n : ℕ) (bytes : List ℕ) → 4 ≤ length (drop n bytes) → IsBytes bytes → s4 (s4_at n bytes) ≡ take 4 (drop n bytes)
told4 n bytes le fits =
    ap u4 (of_z-to_z (fits4 (drop n bytes) (bytes_drop n bytes fits))) ∙ spelled4 (drop n bytes) le (bytes_drop n bytes fits)

-- what is spelled is read
pub back1 : (n : ℕ) (rest : List ℕ) → n < 2 ^ 8 → big_number 1 (u1 n ++ rest) ≡ n
back1 n rest lt = big_number-reads_back 1 n rest (omega arith)

pub back2 : (n : ℕ) (rest : List ℕ) → n < 2 ^ 16 → big_number 2 (u2 n ++ rest) ≡ n
back2 n rest lt = big_number-reads_back 2 n rest (omega arith)

pub back4 : (n : ℕ) (rest : List ℕ) → n < 2 ^ 32 → big_number 4 (u4 n ++ rest) ≡ n
back4 n rest lt = big_number-reads_back 4 n rest (omega arith)

pub signed_back1 : (z : ℤ) (rest : List ℕ) → FitsSigned w8 z → s1_in (s1 z ++ rest) ≡ z
signed_back1 z rest f = ap (cast_signed w8) (back1 (cast_unsigned w8 z) rest (Fits-of_z f).fits) ∙ to_z-of_z f

pub signed_back2 : (z : ℤ) (rest : List ℕ) → FitsSigned w16 z → s2_in (s2 z ++ rest) ≡ z
signed_back2 z rest f = ap (cast_signed w16) (back2 (cast_unsigned w16 z) rest (Fits-of_z f).fits) ∙ to_z-of_z f

pub signed_back4 : (n : ℕ) (front : List ℕ) (z : ℤ) (rest : List ℕ) → length front ≡ n → FitsSigned w32 z →
    s4_at n (front ++ (s4 z ++ rest)) ≡ z
signed_back4 n front z rest long f =
    ap (λ bytes. cast_signed w32 (big_number 4 bytes)) (drop_at front (s4 z ++ rest) n long)
    ∙ ap (cast_signed w32) (back4 (cast_unsigned w32 z) rest (Fits-of_z f).fits) ∙ to_z-of_z f

pub long1 : (n : ℕ) → length (u1 n) ≡ 1
long1 n = length-bytes_high_first 1 n

pub long2 : (n : ℕ) → length (u2 n) ≡ 2
long2 n = length-bytes_high_first 2 n

pub long4 : (n : ℕ) → length (u4 n) ≡ 4
long4 n = length-bytes_high_first 4 n

pub longs1 : (z : ℤ) → length (s1 z) ≡ 1
longs1 z = long1 (cast_unsigned w8 z)

pub longs2 : (z : ℤ) → length (s2 z) ≡ 2
longs2 z = long2 (cast_unsigned w16 z)

pub longs4 : (z : ℤ) → length (s4 z) ≡ 4
longs4 z = long4 (cast_unsigned w32 z)

-- a number of four bytes as a signed one, and back
pub ints_told : (n : ℕ) → n < 2 ^ 32 → s4 (cast_signed w32 n) ≡ u4 n
ints_told n lt = ap u4 (of_z-to_z {w = w32} (record { fits = lt }))

pub ints_fit : (n : ℕ) → n < 2 ^ 32 → FitsSigned w32 (cast_signed w32 n)
ints_fit n lt = sfits_to_z {w = w32} (record { fits = lt })

pub ints_back : (z : ℤ) → FitsSigned w32 z → (cast_unsigned w32 z < 2 ^ 32) × (cast_signed w32 (cast_unsigned w32 z) ≡ z)
ints_back z f = ((Fits-of_z f).fits, to_z-of_z f)
