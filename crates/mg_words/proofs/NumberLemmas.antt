-- The number that a word names in decimal.
use Rattle.std.proofs.Common.{◌≡◌, ◌≢◌, ℕ, zero, suc, ◌<◌, ◌≤◌, ◌^◌, List, [], ◌∷◌, length, get_or, Some, None, sym, ap, ◌∙◌, subst, arith}
use Rattle.std.specs.Prelude.{Ok, Err, Result}
use Rattle.std.specs.Fmt.{decimal}
use Rattle.std.specs.Str.Parse.{AllDigits, digits_value, ParsesUnsigned}
use Rattle.std.proofs.lemmas.Fmt.{first_decimal, digits_decimal, decimal_digit, decimal-digits_value, decimal_injective, parse-decimal}
use Rattle.std.proofs.lemmas.Fmt.{decimal_nonempty}
use Rattle.std.proofs.lemmas.Str.Parse.{IsNumeralModel, numerals_by_value, tells_digits, digit_at, parse_plain}
use Rattle.mg_words.specs.Words.{Word}
use Rattle.mg_words.specs.inner.Judging.{IsNumber, IsUpTo, StartsNumber}

own : IsNumeralModel (AllDigits 10) (digits_value 10)
own = numerals_by_value (AllDigits 10) tells_digits

no_plus : (word : Word) → StartsNumber word → get_or word 0 0 ≢ 43
no_plus [] h = absurd h
no_plus (c ∷ cs) (low, high) = λ e. absurd (omega arith)

no_zero : (word : Word) → StartsNumber word → get_or word 0 0 ≢ 48
no_zero [] h = absurd h
no_zero (c ∷ cs) (low, high) = λ e. absurd (omega arith)

-- a number that was read
read_number : {E : Type 0} (word : Word) (r : Result ℕ E) (n : ℕ) → StartsNumber word → ParsesUnsigned 64 10 word r → r ≡ Ok n
    → IsNumber word (Some n)
read_number {E} word r n starts parsed is =
    let read = parse_plain own {E = E} 64 word (Ok n) (subst (ParsesUnsigned 64 10 word) is parsed) (no_plus word starts) in
    let ((digits, some, below), value) = read in
    let back : decimal (digits_value 10 word) ≡ word =
    decimal-digits_value own word digits some (λ z. absurd (no_zero word starts z)) below in
    (sym back ∙ ap decimal (sym value), subst (λ k. k < 2 ^ 64) (sym value) below)

starts_with : (ds : List ℕ) → 0 < length ds → 48 < get_or ds 0 0 → get_or ds 0 0 ≤ 57 → StartsNumber ds
starts_with [] some low high = absurd (omega arith)
starts_with (c ∷ cs) some low high = (omega arith, high)

-- 0 is named by one word
pub zero_number : (word : Word) → word ≡ 48 ∷ [] → IsNumber word (Some 0)
zero_number word e = (e ∙ sym (decimal_digit 0 (omega arith)), omega arith)

-- a word that is no 0, and doesn't start as a number
no_number : (word : Word) → (word ≡ 48 ∷ [] → ⊥) → (StartsNumber word → ⊥) → IsNumber word None
no_number word other isnt zero small e = other (e ∙ decimal_digit 0 (omega arith))
no_number word other isnt (suc n) small e = isnt (subst StartsNumber (sym e) starts) where
  some : 0 < length (decimal (suc n))
  some = decimal_nonempty (suc n) small

  starts : StartsNumber (decimal (suc n))
  starts =
      starts_with (decimal (suc n)) some (first_decimal (suc n) (omega arith) small)
      (digit_at (decimal (suc n)) 0 (digits_decimal own (suc n) small) some).1

-- ---- words in the code

pub not_started : (bytes text word : Word) → bytes ≡ text → text ≡ word → (word ≡ 48 ∷ [] → ⊥) → (StartsNumber bytes → ⊥) →
    IsNumber word None
not_started bytes text word e e' other isnt = no_number word other (λ h. isnt (subst StartsNumber (sym (e ∙ e')) h))

-- a word that is read as no number
pub not_read : {E : Type 0} (text word : Word) (r : Result ℕ E) (x : E) → text ≡ word → ParsesUnsigned 64 10 text r → r ≡ Err x
    → IsNumber word None
not_read {E} text word r x e parsed is n small named =
    never (sym is ∙ parse-decimal 64 n word r small small named (subst (λ (w : Word). ParsesUnsigned 64 10 w r) e parsed)) where
      never : ◌≡◌ {A = Result ℕ E} (Err x) (Ok n) → ⊥
      never h = cc

pub read_whole : {E : Type 0} (bytes text word : Word) (r : Result ℕ E) (m : ℕ) → bytes ≡ text → text ≡ word → StartsNumber bytes
    → ParsesUnsigned 64 10 text r → r ≡ Ok m → IsNumber word (Some m)
read_whole {E} bytes text word r m e e' starts parsed is =
    read_number {E = E} word r m (subst StartsNumber (e ∙ e') starts) (subst (λ (w : Word). ParsesUnsigned 64 10 w r) e' parsed) is

-- ---- numbers from 1 to a most

-- a word that names no number names none of these
pub none_up_to : (most : ℕ) (word : Word) → most < 2 ^ 64 → IsNumber word None → IsUpTo most word None
none_up_to most word small none n low high e = none n (omega arith) e

-- nor one that names another
pub other_up_to : (most : ℕ) (word : Word) (n : ℕ) → most < 2 ^ 64 → IsNumber word (Some n) → (1 ≤ n → n ≤ most → ⊥) → IsUpTo most word None
other_up_to most word n small (named, below) isnt m low high e =
    let same : n ≡ m = decimal_injective n m below (omega arith) (sym named ∙ e) in isnt (omega arith) (omega arith)
