-- Numbers: digits with no zero in front are what their value is written as.
use Rattle.std.proofs.Common.{◌≡◌, ℕ, zero, suc, ◌<◌, ◌≤◌, ◌^◌, List, [], ◌∷◌, ◌++◌, length, get_or, take, drop, true, false, eqb, Option}
use Rattle.std.proofs.Common.{Some, None, refl, sym, ap, ◌∙◌, inl, inr, arith, eq-eqb, rules}
use Rattle.std.specs.Prelude.{◌||◌, nat_lt, Ok}
use Rattle.std.specs.Char.{is_ascii_digit}
use Rattle.std.specs.Fmt.{decimal}
use Rattle.std.specs.Str.Parse.{digits_value}
use Rattle.std.proofs.lemmas.Bool.Decides.{nat_tests}
use Rattle.std.proofs.lemmas.Fmt.{decimal_digit, decimal_is_IsNumeral, first_decimal, digits_decimal, decimal-digits_value}
use Rattle.std.proofs.lemmas.List.{take_at, drop_at}
use Rattle.std.proofs.lemmas.Str.Parse.{IsNumeralModel, numerals_by_value}
use Rattle.mg_read.specs.Passes.{AllPasses, StopsAt, span}
use Rattle.mg_read.proofs.Steps.{some_is, none_is_not, chosen}
use Rattle.mg_read.proofs.Spans.{span_is, span_again}
use Rattle.jv_lex.specs.Letters.{is_word_start, is_word_byte, is_number_tail}
use Rattle.jv_lex.specs.Pieces.{number, MayStand}
use Rattle.jv_lex.specs.Faults.{bad_number}
use Rattle.jv_lex.specs.inner.Front.{is_tailed, has_leading_zero, small, number_of, numbered, number_at}
use Rattle.jv_lex.proofs.Texts.{neither}
use Rattle.jv_lex.proofs.Right.{Right}

-- digits as the library speaks of them
pub own : IsNumeralModel (AllPasses is_ascii_digit) (digits_value 10)
own = numerals_by_value (AllPasses is_ascii_digit) (search rules)

-- what may not follow a number is more than a digit
tail_digit : (c : ℕ) → is_number_tail c ≡ false → is_ascii_digit c ≡ false
tail_digit c h = (neither (is_word_start c) (is_ascii_digit c) (neither (is_word_byte c) (eqb c 46) h).0).1

stops_digits : (rest : List ℕ) → StopsAt is_number_tail rest → StopsAt is_ascii_digit rest
stops_digits [] h = tt
stops_digits (c ∷ cs) h = tail_digit c h

not_tailed : (rest : List ℕ) → StopsAt is_number_tail rest → is_tailed rest ≡ false
not_tailed [] h = refl
not_tailed (c ∷ cs) h = h

untailed : (rest : List ℕ) → is_tailed rest ≡ false → StopsAt is_number_tail rest
untailed [] h = tt
untailed (c ∷ cs) h = h

pub below : (n : ℕ) → n ≤ 2147483648 → n < 2 ^ 64
below n h = omega arith

-- no zero stands in front of a number
no_zero : (n : ℕ) → n < 2 ^ 64 → has_leading_zero (decimal n) ≡ false
no_zero zero h = let e : decimal 0 ≡ 48 ∷ [] = decimal_digit 0 (omega arith) in rw e refl
no_zero (suc n) h =
    let first : 48 < get_or (decimal (suc n)) 0 0 = first_decimal (suc n) (omega arith) h in
    let off : eqb (get_or (decimal (suc n)) 0 0) 48 ≡ false = above (get_or (decimal (suc n)) 0 0) first in
    rw off refl where
      above : (k : ℕ) → 48 < k → eqb k 48 ≡ false
      above k h = grind (arith, nat_tests)

small_is : (n : ℕ) → n ≤ 2147483648 → small n ≡ Some n
small_is n h = let f : nat_lt 2147483648 n ≡ false = grind (arith, nat_tests) in rw f refl

-- a number that may stand is found
pub number_again : (n : ℕ) (rest : List ℕ) → MayStand (number n) rest → number_at (decimal n ++ rest) ≡ Ok (number n, rest)
number_again n rest (most, stops) =
    let passes : AllPasses is_ascii_digit (decimal n) = digits_decimal own n (below n most) in
    let long : span is_ascii_digit (decimal n ++ rest) ≡ length (decimal n) = span_again is_ascii_digit (decimal n) rest passes
    (stops_digits rest stops) in
    let front = take_at (decimal n) rest (length (decimal n)) refl in
    let back = drop_at (decimal n) rest (length (decimal n)) refl in
    rw (long, front, back, not_tailed rest stops, no_zero n (below n most), (decimal_is_IsNumeral n (below n most)).1, small_is n most) refl

-- one zero at most, where none stands in front of a digit
lone : (ds : List ℕ) → 0 < length ds → has_leading_zero ds ≡ false → get_or ds 0 0 ≡ 48 → length ds ≡ 1
lone ds some none is =
    let on : eqb (get_or ds 0 0) 48 ≡ true = eq-eqb (get_or ds 0 0) 48 is in
    let short : nat_lt 1 (length ds) ≡ false = rw on at none in
    one (length ds) some short where
      one : (n : ℕ) → 0 < n → nat_lt 1 n ≡ false → n ≡ 1
      one n some short = grind (arith, nat_tests)

-- what is read of digits
record Read (ds after : List ℕ) (n : ℕ) : Type 0 where
  stops : is_tailed after ≡ false
  front : has_leading_zero ds ≡ false
  most : n ≤ 2147483648
  value : digits_value 10 ds ≡ n

read_is : (ds after : List ℕ) (n : ℕ) → number_of ds after ≡ Some n → Read ds after n
read_is ds after n e = elim (chosen (is_tailed after || has_leading_zero ds) None (small (digits_value 10 ds)) (Some n) e) [
  | inl h ↦ absurd (none_is_not n h.1)
  | inr h ↦
      let two = neither (is_tailed after) (has_leading_zero ds) h.0 in
      elim (chosen (nat_lt 2147483648 (digits_value 10 ds)) None (Some (digits_value 10 ds)) (Some n) h.1) [
        | inl h ↦ absurd (none_is_not n h.1)
        | inr h ↦
            let value : digits_value 10 ds ≡ n = some_is (digits_value 10 ds) n h.1 in
            record { stops = two.0; front = two.1; most = at_most n (rw value at h.0); value = value }
      ]
] where
  at_most : (n : ℕ) → nat_lt 2147483648 n ≡ false → n ≤ 2147483648
  at_most n h = grind (arith, nat_tests)

-- some digits stand there
pub some_digits : (c : ℕ) (cs : List ℕ) → is_ascii_digit c ≡ true → 0 < length (take (span is_ascii_digit (c ∷ cs)) (c ∷ cs))
some_digits c cs digit = go (span is_ascii_digit (c ∷ cs)) (span_is is_ascii_digit (c ∷ cs)).stops where
  go : (n : ℕ) → StopsAt is_ascii_digit (drop n (c ∷ cs)) → 0 < length (take n (c ∷ cs))
  go zero stops = let no : true ≡ false = sym digit ∙ stops in absurd cc
  go (suc n) stops = omega arith

-- the digits are what their value is written as
pub same_digits : (ds after : List ℕ) (n : ℕ) → AllPasses is_ascii_digit ds → 0 < length ds → number_of ds after ≡ Some n → decimal n ≡ ds
same_digits ds after n passes some e =
    let r = read_is ds after n e in
    let small : digits_value 10 ds < 2 ^ 64 = omega (arith, r.most, r.value) in
    ap decimal (sym r.value) ∙ decimal-digits_value own ds passes some (lone ds some r.front) small

-- what is found of a number is right
pub number_right : (c : ℕ) (cs : List ℕ) → is_ascii_digit c ≡ true → Right (c ∷ cs) (number_at (c ∷ cs))
number_right c cs digit = go (number_of ds after) refl where
  ds : List ℕ
  ds = take (span is_ascii_digit (c ∷ cs)) (c ∷ cs)

  after : List ℕ
  after = drop (span is_ascii_digit (c ∷ cs)) (c ∷ cs)

  go : (o : Option ℕ) → number_of ds after ≡ o → Right (c ∷ cs) (numbered after o)
  go None e = bad_number c cs refl digit (λ n rest parts stands. none n rest parts (number_again n rest stands)) where
    none : (n : ℕ) (rest : List ℕ) → c ∷ cs ≡ decimal n ++ rest → number_at (decimal n ++ rest) ≡ Ok (number n, rest) → ⊥
    none n rest parts found =
        let err : number_at (c ∷ cs) ≡ numbered after None = ap (numbered after) e in
        let no = sym err ∙ ap number_at parts ∙ found in
        absurd cc
  go (Some n) e =
      let r = span_is is_ascii_digit (c ∷ cs) in
      let same : decimal n ≡ ds = same_digits ds after n r.passes (some_digits c cs digit) e in
      let read = read_is ds after n e in
      (r.parts ∙ ap (λ (z : List ℕ). z ++ after) (sym same), (read.most, untailed after read.stops))
