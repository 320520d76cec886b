-- A number that is read digit by digit, up to a limit.
use Rattle.std.proofs.Common.{◌≡◌, ℕ, ◌+◌, ◌-◌, ◌*◌, ◌<◌, ◌≤◌, List, [], ◌∷◌, length, get_or, drop, true, refl}
use Rattle.std.proofs.Common.{sym, ap, ◌∙◌, subst, arith}
use Rattle.std.proofs.lemmas.Bool.Decides.{nat_tests}
use Rattle.std.proofs.lemmas.List.{drop_more, drop_all}
use Rattle.std.proofs.lemmas.Str.Ascii.{trim_ascii_is}
use Rattle.std.specs.Char.{digit_value, is_ascii_digit}
use Rattle.std.specs.Str.{IsTrimAscii}
use Rattle.std.specs.Str.Parse.{AllDigits, IsNumeral, digits_value_after, digits_value}
use Rattle.lsp_frames.specs.Fields.{Numbers}

-- what is left gives the number, and is digits just where the whole is
pub record Left (number index : ℕ) (digits : List ℕ) (limit : ℕ) : Type 0 where
  pub value : digits_value_after 10 number (drop index digits) ≡ digits_value 10 digits
  pub whole : AllDigits 10 (drop index digits) → AllDigits 10 digits
  pub rest : AllDigits 10 digits → AllDigits 10 (drop index digits)
  pub small : number ≤ limit

digit_is : (c : ℕ) → is_ascii_digit c ≡ true → (digit_value c ≡ c - 48) × (digit_value c < 10)
digit_is c h = (grind (arith, nat_tests), grind (arith, nat_tests))

grows : (n : ℕ) (ds : List ℕ) → n ≤ digits_value_after 10 n ds
grows n [] = omega arith
grows n (c ∷ cs) =
    let more : n * 10 + digit_value c ≤ digits_value_after 10 (n * 10 + digit_value c) cs = grows (n * 10 + digit_value c) cs in omega arith

pub begins : (limit : ℕ) (digits : List ℕ) → Left 0 0 digits limit
begins limit digits = record { value = refl; whole = λ h. h; rest = λ h. h; small = omega arith }

-- the next digit, taken from what is left
pub opened : (limit n i : ℕ) (digits : List ℕ) → i < length digits → Left n i digits limit →
    (digits_value_after 10 (n * 10 + digit_value (get_or digits i 0)) (drop (i + 1) digits) ≡ digits_value 10 digits)
    × (AllDigits 10 digits → (digit_value (get_or digits i 0) < 10) × AllDigits 10 (drop (i + 1) digits))
    × ((digit_value (get_or digits i 0) < 10) × AllDigits 10 (drop (i + 1) digits) → AllDigits 10 digits)
opened limit n i digits less l =
    let cut : drop i digits ≡ get_or digits i 0 ∷ drop (i + 1) digits = drop_more digits i 0 less in
    (sym (ap (digits_value_after 10 n) cut) ∙ l.value, λ h. subst (AllDigits 10) cut (l.rest h), λ h. l.whole (subst (AllDigits 10) (sym cut) h))

pub step : (limit n i m : ℕ) (digits : List ℕ) → i < length digits → Left n i digits limit → is_ascii_digit (get_or digits i 0) ≡ true →
    m ≡ n * 10 + (get_or digits i 0 - 48) → m ≤ limit → Left m (i + 1) digits limit
step limit n i m digits less l is e small =
    let o = opened limit n i digits less l in
    let d = digit_is (get_or digits i 0) is in
    let same : m ≡ n * 10 + digit_value (get_or digits i 0) = e ∙ ap (λ (z : ℕ). n * 10 + z) (sym d.0) in
    record {
      value = ap (λ (z : ℕ). digits_value_after 10 z (drop (i + 1) digits)) same ∙ o.0;
      whole = λ h. o.2 (d.1, h);
      rest = λ h. (o.1 h).1;
      small = small;
    }

-- a number above the limit stays above it
pub too_much : (limit n i m : ℕ) (digits : List ℕ) → i < length digits → Left n i digits limit → is_ascii_digit (get_or digits i 0) ≡ true →
    m ≡ n * 10 + (get_or digits i 0 - 48) → limit < m → limit < digits_value 10 digits
too_much limit n i m digits less l is e above =
    let o = opened limit n i digits less l in
    let d = digit_is (get_or digits i 0) is in
    let same : m ≡ n * 10 + digit_value (get_or digits i 0) = e ∙ ap (λ (z : ℕ). n * 10 + z) (sym d.0) in
    let more : m ≤ digits_value_after 10 m (drop (i + 1) digits) = grows m (drop (i + 1) digits) in
    let all : digits_value_after 10 m (drop (i + 1) digits) ≡ digits_value 10 digits =
    ap (λ (z : ℕ). digits_value_after 10 z (drop (i + 1) digits)) same ∙ o.0 in
    omega (arith, all)

pub ended : (limit n i : ℕ) (digits : List ℕ) → length digits ≤ i → Left n i digits limit →
    (AllDigits 10 digits) × (n ≡ digits_value 10 digits) × (n ≤ limit)
ended limit n i digits over l =
    let none : drop i digits ≡ [] = drop_all i digits over in
    (l.whole (subst (AllDigits 10) (sym none) tt), sym (ap (digits_value_after 10 n) none) ∙ l.value, l.small)

-- white space around is cut off in one way
pub same_trim : (value a b : List ℕ) → IsTrimAscii value a → IsTrimAscii value b → a ≡ b
same_trim value a b p q = trim_ascii_is value a _ refl p ∙ sym (trim_ascii_is value b _ refl q)

pub none_in : {A : Type 0} (limit n : ℕ) (value digits : List ℕ) → IsTrimAscii value digits →
    (IsNumeral 10 digits → limit < digits_value 10 digits) → Numbers limit value n → A
none_in limit n value digits trimmed none h =
    let same : h.digits ≡ digits = same_trim value h.digits digits h.trimmed trimmed in
    let above : limit < digits_value 10 digits = none (subst (IsNumeral 10) same h.numeral) in
    let is : n ≡ digits_value 10 digits = h.number ∙ ap (digits_value 10) same in
    let small : n ≤ limit = h.within in
    absurd (omega (arith, is))
