-- Text that is UTF-8 is so between the bytes of ASCII.
use Rattle.std.proofs.Common.{◌≡◌, ℕ, suc, ◌+◌, ◌<◌, List, [], ◌∷◌, ◌++◌, length, get_or, take, drop, Bool, true, false, refl, sym, ap, ◌∙◌}
use Rattle.std.proofs.Common.{subst, append_assoc, length-append, add-one, arith}
use Rattle.std.specs.Prelude.{map, ◌&&◌, nat_lt}
use Rattle.std.specs.Char.{is_ascii_digit}
use Rattle.std.specs.Fmt.{decimal}
use Rattle.std.specs.List.{AllByRecursion, list_all}
use Rattle.std.specs.Str.{IsUtf8, IsValidUpTo, IsAscii}
use Rattle.std.proofs.Math.Seq.{get_or-append_seam, take-append_seam}
use Rattle.std.proofs.lemmas.Bool.Decides.{nat_tests}
use Rattle.std.proofs.lemmas.Fmt.{digits_decimal}
use Rattle.std.proofs.lemmas.Str.{IsUtf8-append, IsUtf8-take, IsUtf8-drop, IsUtf8-nil, IsUtf8-from_ascii, IsCharBoundary-before_ascii}
use Rattle.std.proofs.lemmas.Str.{IsCharBoundary-after_ascii}
use Rattle.std.proofs.lemmas.Str.Ascii.{IsAscii-nil, IsAscii-cons}
use Rattle.mg_read.specs.Passes.{AllPasses}
use Rattle.jv_tree.specs.declared.token.Sign.{Sign}
use Rattle.jv_tree.specs.declared.token.Sign.TheVariants as signs
use Rattle.jv_lex.specs.Letters.{is_blank, is_word_byte, is_in_line, is_escape, escaped_byte}
use Rattle.jv_lex.specs.Signs.{written}
use Rattle.jv_lex.specs.Written.{Written, plain, escaped, spelled, meant, IsCharacter}
use Rattle.jv_lex.specs.Pieces.{Piece, blank, line, block, word, number, text, sign, spell, MayStand}
use Rattle.jv_lex.proofs.Numbers.{own, below}

-- one byte of ASCII
ascii_one : (c : ℕ) → c < 128 → IsUtf8 (c ∷ [])
ascii_one c h = IsUtf8-from_ascii (c ∷ []) (IsAscii-cons c [] h IsAscii-nil)

-- on both sides of a byte of ASCII stands UTF-8
pub split_ascii : (xs ys : List ℕ) (c : ℕ) → IsUtf8 (xs ++ c ∷ ys) → c < 128 → IsUtf8 xs × IsUtf8 ys
split_ascii xs ys c h below =
    let at : get_or (xs ++ c ∷ ys) (length xs) 0 ≡ c = get_or-append_seam xs c ys 0 in
    let low : get_or (xs ++ c ∷ ys) (length xs) 0 < 128 = omega (arith, at) in
    let within : length xs < length (xs ++ c ∷ ys) = omega (arith, length-append xs (c ∷ ys)) in
    let front = IsUtf8-take (xs ++ c ∷ ys) (length xs) h (IsCharBoundary-before_ascii (xs ++ c ∷ ys) (length xs) within low) in
    let back = IsUtf8-drop (xs ++ c ∷ ys) (length xs + 1) h (IsCharBoundary-after_ascii (xs ++ c ∷ ys) (length xs) h within low) in
    (rw take-append_seam at front, rw (add-one, past xs) at back) where
      past : (xs : List ℕ) → drop (suc (length xs)) (xs ++ c ∷ ys) ≡ ys
      past [] = refl
      past (x ∷ xs) = past xs

-- where bytes stop to be UTF-8, no byte of ASCII stands
pub ill_not_ascii : (bytes xs ys : List ℕ) (c k : ℕ) → bytes ≡ xs ++ c ∷ ys → k ≡ length xs → c < 128 → IsValidUpTo bytes k → ⊥
ill_not_ascii bytes xs ys c k parts at low v =
    let n : ℕ = length (xs ++ c ∷ []) in
    let one : n ≡ length xs + 1 = length-append xs (c ∷ []) in
    let more : k < n = omega (arith, one, at) in
    let long_parts : bytes ≡ (xs ++ c ∷ []) ++ ys = parts ∙ sym (append_assoc xs (c ∷ []) ys) in
    let front : take k bytes ≡ xs = ap (λ (z : List ℕ). take k z) parts ∙ ap (λ (z : ℕ). take z (xs ++ c ∷ ys)) at ∙ take-append_seam xs
    (c ∷ ys) in
    let long : take n bytes ≡ xs ++ c ∷ [] = ap (λ (z : List ℕ). take n z) long_parts ∙ take-append_seam (xs ++ c ∷ []) ys in
    v.longest n more (subst IsUtf8 (sym long) (IsUtf8-append xs (c ∷ []) (subst IsUtf8 front v.front) (ascii_one c low)))

-- behind bytes of ASCII stands UTF-8
past_ascii : (p : ℕ → Bool) (xs ys : List ℕ) → ((c : ℕ) → p c ≡ true → c < 128) → AllPasses p xs → IsUtf8 (xs ++ ys) → IsUtf8 ys
past_ascii p [] ys low h u = u
past_ascii p (c ∷ xs) ys low h u = past_ascii p xs ys low h.1 (split_ascii [] (xs ++ ys) c u (low c h.0)).1

pub word_low : (c : ℕ) → is_word_byte c ≡ true → c < 128
word_low c h = grind (arith, nat_tests)

pub digit_low : (c : ℕ) → is_ascii_digit c ≡ true → c < 128
digit_low c h = grind (arith, nat_tests)

blank_low : (c : ℕ) → is_blank c ≡ true → c < 128
blank_low c h = grind (arith, nat_tests)

escape_low : (c : ℕ) → is_escape c ≡ true → c < 128
escape_low c h = grind (arith, nat_tests)

escaped_low : (c : ℕ) → is_escape c ≡ true → escaped_byte c < 128
escaped_low c h = grind (arith, nat_tests)

test_low : (c : ℕ) → nat_lt c 128 ≡ true → c < 128
test_low c h = grind (arith, nat_tests)

all_low : (xs : List ℕ) → list_all (λ c. nat_lt c 128) xs ≡ true → AllPasses (λ c. nat_lt c 128) xs
all_low [] h = tt
all_low (c ∷ xs) h = let b = both (nat_lt c 128) (list_all (λ c. nat_lt c 128) xs) h in (b.0, all_low xs b.1) where
  both : (a b : Bool) → (a && b) ≡ true → (a ≡ true) × (b ≡ true)
  both true b h = (refl, h)
  both false b h = absurd cc

-- bytes that pass a test of ASCII are ASCII
pub passing_ascii : (p : ℕ → Bool) (xs : List ℕ) → ((c : ℕ) → p c ≡ true → c < 128) → AllPasses p xs → IsAscii xs
passing_ascii p [] low h = IsAscii-nil
passing_ascii p (c ∷ cs) low h = IsAscii-cons c cs (low c h.0) (passing_ascii p cs low h.1)

-- signs are ASCII
sign_low : (s : Sign) → list_all (λ c. nat_lt c 128) (written s) ≡ true
sign_low signs.OpenBrace = refl
sign_low s = refl

-- behind a piece stands UTF-8
pub after_piece : (p : Piece) (after : List ℕ) → MayStand p after → IsUtf8 (spell p ++ after) → IsUtf8 after
after_piece (blank c) after h u = (split_ascii [] after c u (blank_low c h)).1
after_piece (line body) [] h u = IsUtf8-nil
after_piece (line body) (c ∷ after) (passes, stops, none) u =
    let low : c < 128 = end_low c stops in
    IsUtf8-append (c ∷ []) after (ascii_one c low) (split_ascii (47 ∷ 47 ∷ body) after c u low).1 where
      end_low : (c : ℕ) → is_in_line c ≡ false → c < 128
      end_low c h = grind (arith, nat_tests)
after_piece (block body) after h u =
    let parts : (body ++ 42 ∷ 47 ∷ []) ++ after ≡ (body ++ 42 ∷ []) ++ 47 ∷ after =
    append_assoc body (42 ∷ 47 ∷ []) after ∙ sym (append_assoc body (42 ∷ []) (47 ∷ after)) in
    (split_ascii (47 ∷ 42 ∷ (body ++ 42 ∷ [])) after 47 (subst (λ (z : List ℕ). IsUtf8 (47 ∷ 42 ∷ z)) parts u) (omega arith)).1
after_piece (word name) after h u = past_ascii is_word_byte name after word_low h.1 u
after_piece (number n) after h u = past_ascii is_ascii_digit (decimal n) after digit_low (digits_decimal own n (below n h.0)) u
after_piece (text ws) after h u =
    (split_ascii (34 ∷ spelled ws) after 34 (subst (λ (z : List ℕ). IsUtf8 (34 ∷ z)) (append_assoc (spelled ws) (34 ∷ []) after) u)
    (omega arith)).1
after_piece (sign s) after h u = past_ascii (λ c. nat_lt c 128) (written s) after test_low (all_low (written s) (sign_low s)) u

-- what a text means is UTF-8 where what is written is
meant_utf8 : (xs : List ℕ) (ws : List Written) → AllByRecursion IsCharacter ws → IsUtf8 (xs ++ spelled ws) → IsUtf8 (xs ++ map meant ws)
meant_utf8 xs [] h u = u
meant_utf8 xs (plain c ∷ ws) h u =
    subst IsUtf8 (append_assoc xs (c ∷ []) (map meant ws))
    (meant_utf8 (xs ++ c ∷ []) ws h.1 (subst IsUtf8 (sym (append_assoc xs (c ∷ []) (spelled ws))) u))
meant_utf8 xs (escaped c ∷ ws) h u =
    let a = split_ascii xs (c ∷ spelled ws) 92 u (omega arith) in
    let b = split_ascii [] (spelled ws) c a.1 (escape_low c h.0) in
    IsUtf8-append xs (escaped_byte c ∷ map meant ws) a.0 (IsUtf8-append (escaped_byte c ∷ []) (map meant ws)
    (ascii_one (escaped_byte c) (escaped_low c h.0)) (meant_utf8 [] ws h.1 b.1))

pub text_utf8 : (ws : List Written) (after : List ℕ) → AllByRecursion IsCharacter ws → IsUtf8 (34 ∷ (spelled ws ++ 34 ∷ []) ++ after) →
    IsUtf8 (map meant ws)
text_utf8 ws after h u =
    let inner : IsUtf8 (spelled ws ++ 34 ∷ after) =
    (split_ascii [] (spelled ws ++ 34 ∷ after) 34 (subst (λ (z : List ℕ). IsUtf8 (34 ∷ z)) (append_assoc (spelled ws) (34 ∷ []) after)
    u) (omega arith)).1 in
    meant_utf8 [] ws h (split_ascii (spelled ws) after 34 inner (omega arith)).0
