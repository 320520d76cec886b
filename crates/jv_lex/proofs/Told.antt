-- What the code is told of the piece at the front.
use Rattle.std.proofs.Common.{◌≡◌, ℕ, suc, ◌+◌, ◌<◌, ◌≤◌, ◌^◌, List, [], ◌∷◌, ◌++◌, length, take, drop, true, false, Some, None, Result, Ok, Err}
use Rattle.std.proofs.Common.{refl, sym, ap, ◌∙◌, subst, length-append, arith}
use Rattle.std.specs.Prelude.{Option, nat_lt, slice_index, MatchResult, IsOk}
use Rattle.std.specs.Char.{is_ascii_digit}
use Rattle.std.specs.Fmt.{decimal}
use Rattle.std.specs.Str.{IsUtf8}
use Rattle.std.specs.Str.Parse.{digits_value, ParsesUnsigned}
use Rattle.std.proofs.lemmas.Bool.Decides.{nat_tests}
use Rattle.std.proofs.lemmas.Fmt.{IsAscii-from_digits}
use Rattle.std.proofs.lemmas.List.{take_at, length-take-le}
use Rattle.std.proofs.lemmas.Str.{IsUtf8-from_ascii}
use Rattle.std.proofs.lemmas.Str.Parse.{parse_digits}
use Rattle.mg_read.specs.Passes.{AllPasses, span}
use Rattle.mg_read.proofs.Spans.{span_is}
use Rattle.jv_tree.specs.declared.token.Sign.{Sign}
use Rattle.jv_lex.specs.declared.front.FrontPiece.{FrontPiece}
use Rattle.jv_lex.specs.declared.front.Stop.{Stop}
use Rattle.jv_lex.specs.declared.front.PieceKind.{PieceKind}
use Rattle.jv_lex.specs.declared.front.PieceKind.TheVariants as kinds
use Rattle.jv_lex.specs.Signs.{written}
use Rattle.jv_lex.specs.inner.Front.{closing_at, bad_at, small, is_tailed, has_leading_zero, number_of, numbered, number_at, single, pair}
use Rattle.jv_lex.specs.inner.Front.{sign_from, sign_at, or_alone, whole_text, text_at, unicode_at, comment, line_at}
use Rattle.jv_lex.specs.inner.Front.{kind_of, comment_shown, shown}
use Rattle.jv_lex.specs.Written.{Written, spelled}
use Rattle.jv_lex.specs.Letters.{is_in_line}
use Rattle.jv_lex.specs.Pieces.{Piece, line, text, spell}
use Rattle.jv_lex.proofs.Texts.{Closed, closing_is, characters_again, text_closed}
use Rattle.jv_lex.proofs.Longest.{single_is, pair_is}
use Rattle.jv_lex.proofs.Numbers.{own, same_digits}

-- ---- numbers

-- what can't have failed is Ok
pub ok_where : {T E : Type 0} (r : Result T E) (P : T → Type 0) (Q : E → Type 0) → MatchResult r P Q → ((e : E) → Q e → ⊥) → IsOk r
ok_where (Ok x) P Q h never = refl
ok_where (Err e) P Q h never = absurd (never e h)

pub digits_utf8 : (ds : List ℕ) → AllPasses is_ascii_digit ds → IsUtf8 ds
digits_utf8 ds h = IsUtf8-from_ascii ds (IsAscii-from_digits ds (own.to ds h))

-- digits that make no number of 32 bits are no number here
pub too_great : {E : Type 0} (ds : List ℕ) (r : Result ℕ E) (e : E) → r ≡ Err e → ParsesUnsigned 32 10 ds r → AllPasses is_ascii_digit ds →
    0 < length ds
    → None ≡ small (digits_value 10 ds)
too_great ds r e is h passes some =
    let never = rw is at (parse_digits own 32 ds r h passes) in
    great (digits_value 10 ds) (λ below. never (some, below)) where
      great : (n : ℕ) → (n < 2 ^ 32 → ⊥) → None ≡ small n
      great n none = let on : nat_lt 2147483648 n ≡ true = over n none in rw on refl where
        over : (n : ℕ) → (n < 2 ^ 32 → ⊥) → nat_lt 2147483648 n ≡ true
        over n none = let h : 2147483648 < n = omega arith in grind (arith, nat_tests)

-- the number at the front
pub number_shown : (bytes digits after : List ℕ) (len v : ℕ) → len ≡ span is_ascii_digit bytes → digits ≡ take len bytes →
    after ≡ drop len bytes → length digits ≡ len → 0 < len
    → is_tailed after ≡ false → has_leading_zero digits ≡ false → Some v ≡ small (digits_value 10 digits)
    → ◌≡◌ {A = Result FrontPiece Stop} (Ok (record { kind = kinds.Number v; len = len })) (shown (number_at bytes))
number_shown bytes digits after len v long front back size some tailed zero value =
    let read : number_of digits after ≡ Some v = rw (tailed, zero) (sym value) in
    let ds_is : digits ≡ take (span is_ascii_digit bytes) bytes = front ∙ ap (λ (n : ℕ). take n bytes) long in
    let after_is : after ≡ drop (span is_ascii_digit bytes) bytes = back ∙ ap (λ (n : ℕ). drop n bytes) long in
    let passes : AllPasses is_ascii_digit digits = subst (AllPasses is_ascii_digit) (sym ds_is) (span_is is_ascii_digit bytes).passes in
    let same = same_digits digits after v passes (omega (arith, size)) read in
    let at : number_at bytes ≡ numbered after (number_of digits after) =
    ap (λ (z : List ℕ). numbered z (number_of (take (span is_ascii_digit bytes) bytes) z)) (sym after_is)
    ∙ ap (λ (z : List ℕ). numbered after (number_of z after)) (sym ds_is) in
    let len_is : len ≡ length (decimal v) = sym size ∙ ap length (sym same) in
    ap (λ (n : ℕ). Ok (record { kind = kinds.Number v; len = n })) len_is ∙ sym (ap shown (at ∙ ap (numbered after) read))

-- ---- signs

-- the longer sign at the front
pub pair_shown : (c : ℕ) (rest : List ℕ) (s t : Sign) → single c ≡ Some s → 1 ≤ length rest → pair s c (slice_index rest 0) ≡ Some t
    → ◌≡◌ {A = Result FrontPiece Stop} (Ok (record { kind = kinds.Sign t; len = 2 })) (shown (sign_at c rest))
pair_shown c [] s t one some two = absurd (omega arith)
pair_shown c (d ∷ ds) s t one some two =
    let is : written t ≡ c ∷ d ∷ [] = pair_is s c d t (single_is c s one) two in
    ap (λ (n : ℕ). Ok (record { kind = kinds.Sign t; len = n })) (sym (ap length is)) ∙ sym (ap (λ o. shown (sign_from c (d ∷ ds) o)) one ∙
    ap (λ o. shown (Ok (or_alone s (d ∷ ds) o))) two)

-- ---- texts

-- the text at the front
pub text_shown : (cs : List ℕ) (n : ℕ) → closing_at false cs ≡ Some n → bad_at false (take n cs) ≡ None
    → ◌≡◌ {A = Result FrontPiece Stop} (Ok (record { kind = kinds.Text; len = n + 2 })) (shown (text_at cs))
text_shown cs n closed fine =
    let k : Closed cs n = closing_is false cs n closed in
    let body : take n cs ≡ spelled k.ws = ap (λ (z : List ℕ). take n z) k.parts ∙ take_at (spelled k.ws) (34 ∷ k.after) n (sym k.long) in
    let none : bad_at false (spelled k.ws) ≡ None = sym (ap (bad_at false) body) ∙ fine in
    let at : text_at cs ≡ Ok (text k.ws, k.after) =
    ap text_at k.parts ∙ text_closed k.ws k.after k.strokes ∙ ap (whole_text (spelled k.ws) k.after) none
    ∙ ap (λ (ws : List Written). Ok (text ws, k.after)) (characters_again k.ws k.strokes) in
    let size : n + 2 ≡ length (34 ∷ (spelled k.ws ++ 34 ∷ [])) = omega (arith, k.long, length-append (spelled k.ws) (34 ∷ [])) in
    ap (λ (z : ℕ). Ok (record { kind = kinds.Text; len = z })) size ∙ sym (ap shown at)

-- ---- comments

-- a comment of which the code is told its length
told_comment : (p : Piece) (after : List ℕ) (len : ℕ) (o : Option ℕ) → kind_of p ≡ kinds.Gap → len ≡ length (spell p)
    → comment_shown len o ≡ shown (comment p after o)
told_comment p after len None gap long =
    ap (λ (n : ℕ). Ok (record { kind = kinds.Gap; len = n })) long ∙ ap (λ (k : PieceKind). Ok (record { kind = k; len = length (spell p) }))
    (sym gap)
told_comment p after len (Some n) gap long = refl

-- the comment to the end of its line
pub line_shown : (bytes : List ℕ) (len : ℕ) → len ≡ span is_in_line bytes → len ≤ length bytes
    → comment_shown (len + 2) (unicode_at false (take len bytes)) ≡ shown (line_at bytes)
line_shown bytes len is within =
    let long : length (take len bytes) ≡ len = length-take-le len bytes within in
    let two : len + 2 ≡ suc (suc (length (take len bytes))) = omega (arith, long) in
    told_comment (line (take len bytes)) (drop len bytes) (len + 2) (unicode_at false (take len bytes)) refl two
    ∙ ap (λ (n : ℕ). shown (comment (line (take n bytes)) (drop n bytes) (unicode_at false (take n bytes)))) is
