use Rattle.std.proofs.Common.{ℕ, ◌-◌, ◌/◌, ◌^◌, List, length, get_or, nat_eq, bit_and, ap, ◌∙◌, arith}
use Rattle.std.proofs.lemmas.Nat.Bits.{shr_and_one}
use Rattle.mg_text.proofs.Letters.{lengths, no_empty, no_long, no_low, no_high, no_bit}
use Rattle.mg_text.proofs.java_words.may_be_word.Goals as goal

pub returns-then-count-eq0 : goal.returns-then-count-eq0
returns-then-count-eq0 c = no_empty c.args.text.now (omega (arith, c.as_bytes-bytes.ensures.len))

pub returns-then-count-gt-MOST_BYTES : goal.returns-then-count-gt-MOST_BYTES
returns-then-count-gt-MOST_BYTES c = no_long c.args.text.now (omega (arith, c.as_bytes-bytes.ensures.len))

pub returns-then-first-lt-FIRST_LETTER : goal.returns-then-first-lt-FIRST_LETTER
returns-then-first-lt-FIRST_LETTER c =
    no_low c.args.text.now (omega (arith, ap (λ (bs : List ℕ). get_or bs 0 0) c.as_bytes-bytes.ensures.value))

pub returns-then-place-ge26 : goal.returns-then-place-ge26
returns-then-place-ge26 c =
    no_high c.args.text.now (omega (arith, ap (λ (bs : List ℕ). get_or bs 0 0) c.as_bytes-bytes.ensures.value))

pub returns : goal.returns
returns c =
    no_bit c.args.text.now _
    (ap (λ (bs : List ℕ). nat_eq (bit_and (get_or lengths (get_or bs 0 0 - 97) 0 / 2 ^ length bs) 1) 1) c.as_bytes-bytes.ensures.value
    ∙ ap (λ v. nat_eq v 1) (shr_and_one (get_or lengths (get_or c.args.text.now 0 0 - 97) 0) (length c.args.text.now)))
