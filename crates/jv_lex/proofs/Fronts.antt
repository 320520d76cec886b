-- What is found at the front is right, and the only one.
use Rattle.std.proofs.Common.{◌≡◌, ℕ, zero, suc, ◌+◌, ◌<◌, List, [], ◌∷◌, ◌++◌, length, take, drop, Bool, true, false, cond, eqb, Option}
use Rattle.std.proofs.Common.{Some, None, refl, sym, ap, ◌∙◌, subst, inl, inr, append_assoc, arith}
use Rattle.std.specs.List.{AllByRecursion}
use Rattle.std.specs.Prelude.{Ok, Err, option_map}
use Rattle.std.specs.Char.{is_ascii_digit}
use Rattle.std.specs.Fmt.{decimal}
use Rattle.std.proofs.lemmas.Bool.{eqb-true}
use Rattle.std.proofs.lemmas.Bool.Decides.{nat_tests}
use Rattle.std.proofs.lemmas.Fmt.{decimal_nonempty, digits_decimal}
use Rattle.std.proofs.lemmas.List.{take_at, drop_at}
use Rattle.mg_read.specs.Passes.{AllPasses, StopsAt, StartsWith, span}
use Rattle.mg_read.specs.Pieces.{HasNoClose}
use Rattle.mg_read.specs.inner.Fronts.{is_close, close_at}
use Rattle.mg_read.proofs.Steps.{none_is_not, chosen}
use Rattle.mg_read.proofs.Spans.{either, span_is, span_again, close_is, close_again}
use Rattle.jv_lex.specs.declared.fault.Cause.{Cause}
use Rattle.jv_lex.specs.declared.fault.Cause.TheVariants as causes
use Rattle.jv_lex.specs.Letters.{is_blank, is_word_start, is_word_byte, is_in_line}
use Rattle.jv_tree.specs.declared.token.Sign.{Sign}
use Rattle.jv_tree.specs.declared.token.Sign.TheVariants as signs
use Rattle.jv_lex.specs.Comments.{HasNoUnicode, FirstUnicode}
use Rattle.jv_lex.specs.Signs.{written}
use Rattle.jv_lex.specs.Written.{Written, escaped, spelled, IsStroke}
use Rattle.jv_lex.specs.Pieces.{Piece, blank, line, block, word, number, text, sign, spell, MayStand}
use Rattle.jv_lex.specs.Faults.{Stops, open_comment, line_unicode, block_unicode, open_text, bad_escape, bad_number, bad_byte, is_start}
use Rattle.jv_lex.specs.inner.Front.{Front, closing_at, bad_at, whole_text, closed_text, text_at, numbered, number_of, number_at}
use Rattle.jv_lex.specs.inner.Front.{unicode_at, comment, closed_block, line_at, sign_from, sign_at, slash_at, the_word, front_at}
use Rattle.jv_lex.proofs.Texts.{neither, Closed, closing_is, closing_again, characters_again, spelled_append, FirstBad, bad_is, text_closed}
use Rattle.jv_lex.proofs.Texts.{text_again, text_bad, text_open}
use Rattle.jv_lex.proofs.Comments.{none_found, first_found, none_again, first_again}
use Rattle.jv_lex.proofs.Right.{Stands, Right, right_if}
use Rattle.jv_lex.proofs.Longest.{sign_right, sign_again, single_none}
use Rattle.jv_lex.proofs.Numbers.{own, number_right, number_again}

-- ---- words

start_passes : (c : ℕ) → is_word_start c ≡ true → is_word_byte c ≡ true
start_passes c h = rw h refl

word_right : (c : ℕ) (cs : List ℕ) → is_word_start c ≡ true → Stands (c ∷ cs) (the_word (c ∷ cs))
word_right c cs h =
    let r = span_is is_word_byte (c ∷ cs) in
    (r.parts, (starts (span is_word_byte (c ∷ cs)) r.stops, r.passes, r.stops)) where
      starts : (n : ℕ) → StopsAt is_word_byte (drop n (c ∷ cs)) → StartsWith is_word_start (take n (c ∷ cs))
      starts zero stops = let e : true ≡ false = sym (start_passes c h) ∙ stops in absurd cc
      starts (suc n) stops = h

word_again : (name rest : List ℕ) → AllPasses is_word_byte name → StopsAt is_word_byte rest → the_word (name ++ rest) ≡ (word name, rest)
word_again name rest passes stops =
    let n = span_again is_word_byte name rest passes stops in
    rw (n, take_at name rest (length name) refl, drop_at name rest (length name) refl) refl

-- ---- comments

-- where a "*/" stands, one is found
close_there : (u v : List ℕ) → close_at (u ++ 42 ∷ 47 ∷ v) ≡ None → ⊥
close_there [] v e = none_is_not 0 (sym e)
close_there (c ∷ u) v e = elim (chosen (is_close (c ∷ (u ++ 42 ∷ 47 ∷ v))) (Some 0) (option_map (λ n. n + 1) (close_at (u ++ 42 ∷ 47 ∷ v)))
    None e) [
      | inl t ↦ none_is_not 0 (sym t.1)
      | inr f ↦ close_there u v (unmapped (close_at (u ++ 42 ∷ 47 ∷ v)) f.1)
    ] where
      unmapped : (o : Option ℕ) → option_map (λ n. n + 1) o ≡ None → o ≡ None
      unmapped None e = refl
      unmapped (Some n) e = absurd (none_is_not (n + 1) (sym e))

-- a comment, where its body may stand and where it may not
comment_right : (bytes body after : List ℕ) (p : Piece) → (HasNoUnicode body → Stands bytes (p, after))
    → ((n : ℕ) → FirstUnicode body n → Stops bytes causes.BadByte (suc (suc n))) → Right bytes (comment p after (unicode_at false body))
comment_right bytes body after p fine bad = go (unicode_at false body) refl where
  go : (o : Option ℕ) → unicode_at false body ≡ o → Right bytes (comment p after o)
  go None e = fine (none_found body e)
  go (Some n) e =
      let f = first_found body n e in
      let at : suc (suc f.behind) ≡ n + 1 = omega (arith, f.at) in
      subst (Stops bytes causes.BadByte) at (bad f.behind f.first)

block_right : (body : List ℕ) → Right (47 ∷ 42 ∷ body) (closed_block body (close_at body))
block_right body = go (close_at body) refl where
  go : (o : Option ℕ) → close_at body ≡ o → Right (47 ∷ 42 ∷ body) (closed_block body o)
  go None e = open_comment body refl (λ u v parts. close_there u v (sym (ap close_at parts) ∙ e))
  go (Some n) e =
      let r = close_is body n e in
      let two : suc (suc n) ≡ n + 2 = omega arith in
      let parts : body ≡ take n body ++ 42 ∷ 47 ∷ drop (n + 2) body =
      subst (λ (k : ℕ). body ≡ take n body ++ 42 ∷ 47 ∷ drop k body) two r.parts in
      comment_right (47 ∷ 42 ∷ body) (take n body) (drop (n + 2) body) (block (take n body))
      (λ none. (
        ap (λ (z : List ℕ). 47 ∷ 42 ∷ z) (parts ∙ sym (append_assoc (take n body) (42 ∷ 47 ∷ []) (drop (n + 2) body))),
        (r.first, none),
      ))
      (λ k first. block_unicode (take n body) (drop (n + 2) body) k (ap (λ (z : List ℕ). 47 ∷ 42 ∷ z) parts) r.first first)

line_right : (body : List ℕ) → Right (47 ∷ 47 ∷ body) (line_at body)
line_right body =
    let r = span_is is_in_line body in
    let n : ℕ = span is_in_line body in
    let parts = ap (λ (z : List ℕ). 47 ∷ 47 ∷ z) r.parts in
    comment_right (47 ∷ 47 ∷ body) (take n body) (drop n body) (line (take n body)) (λ none. (parts, (r.passes, r.stops, none)))
    (λ k first. line_unicode (take n body) (drop n body) k parts r.passes r.stops first)

slash_right : (cs : List ℕ) → Right (47 ∷ cs) (slash_at cs)
slash_right [] = sign_right 47 [] refl (λ _. tt)
slash_right (d ∷ ds) =
    right_if (47 ∷ d ∷ ds) (eqb d 47) (line_at ds) _
    (λ t. subst (λ (z : ℕ). Right (47 ∷ z ∷ ds) (line_at ds)) (sym (eqb-true d 47 t)) (line_right ds))
    (λ f. right_if (47 ∷ d ∷ ds) (eqb d 42) (closed_block ds (close_at ds)) (sign_at 47 (d ∷ ds))
    (λ t. subst (λ (z : ℕ). Right (47 ∷ z ∷ ds) (closed_block ds (close_at ds))) (sym (eqb-true d 42 t)) (block_right ds))
    (λ g. sign_right 47 (d ∷ ds) refl (λ _. rw (f, g) refl)))

-- ---- texts

whole_right : (ws : List Written) (after cs : List ℕ) (o : Option ℕ) → cs ≡ spelled ws ++ 34 ∷ after → AllByRecursion IsStroke ws →
    FirstBad ws o
    → Right (34 ∷ cs) (whole_text (spelled ws) after o)
whole_right ws after cs None parts strokes h =
    subst (λ (z : List Written). Stands (34 ∷ cs) (text z, after)) (sym (characters_again ws strokes))
    (ap (λ (z : List ℕ). 34 ∷ z) (parts ∙ sym (append_assoc (spelled ws) (34 ∷ []) after)), h)
whole_right ws after cs (Some k) parts strokes h =
    let is : spelled ws ≡ spelled h.good ++ 92 ∷ h.byte ∷ spelled h.more = ap spelled h.parts ∙ spelled_append h.good
    (escaped h.byte ∷ h.more) in
    subst (λ (z : ℕ). Stops (34 ∷ cs) causes.BadEscape z) (sym h.at)
    (bad_escape h.good h.more h.byte after
    (ap (λ (z : List ℕ). 34 ∷ z) (parts ∙ ap (λ (z : List ℕ). z ++ 34 ∷ after) is ∙ append_assoc (spelled h.good)
    (92 ∷ h.byte ∷ spelled h.more) (34 ∷ after)))
    h.fine h.none h.in_line h.strokes)

text_right : (cs : List ℕ) → Right (34 ∷ cs) (text_at cs)
text_right cs = go (closing_at false cs) refl where
  go : (o : Option ℕ) → closing_at false cs ≡ o → Right (34 ∷ cs) (text_at cs)
  go None e =
      subst (Right (34 ∷ cs)) (sym (ap (closed_text cs) e))
      (open_text cs refl (λ ws after strokes parts. none_is_not (length (spelled ws)) (sym e ∙ ap (closing_at false) parts ∙
      closing_again ws after strokes)))
  go (Some n) e =
      let k : Closed cs n = closing_is false cs n e in
      subst (Right (34 ∷ cs)) (sym (ap text_at k.parts ∙ text_closed k.ws k.after k.strokes))
      (whole_right k.ws k.after cs (bad_at false (spelled k.ws)) k.parts k.strokes (bad_is k.ws k.strokes))

-- ---- what is found is right

pub front_right : (c : ℕ) (cs : List ℕ) → Right (c ∷ cs) (front_at (c ∷ cs))
front_right c cs =
    right_if (c ∷ cs) (is_blank c) _ _ (λ t. (refl, t)) (λ b.
    right_if (c ∷ cs) (is_word_start c) _ _ (λ t. word_right c cs t) (λ w.
    right_if (c ∷ cs) (is_ascii_digit c) _ _ (λ t. number_right c cs t) (λ d.
    right_if (c ∷ cs) (eqb c 34) _ _ (λ t. subst (λ (z : ℕ). Right (z ∷ cs) (text_at cs)) (sym (eqb-true c 34 t)) (text_right cs)) (λ q.
    right_if (c ∷ cs) (eqb c 47) _ _ (λ t. subst (λ (z : ℕ). Right (z ∷ cs) (slash_at cs)) (sym (eqb-true c 47 t)) (slash_right cs)) (λ s.
    sign_right c cs (rw (b, w, d, q) refl) (λ is. let no : true ≡ false = sym (ap (λ (z : ℕ). eqb z 47) is) ∙ s in absurd cc))))))

-- ---- what may stand is found

-- the second of three ways is taken, or the last of six
second_way : (a b : Bool) (x y z : Front) → a ≡ false → b ≡ true → cond a x (cond b y z) ≡ y
second_way a b x y z f t = rw (f, t) refl

last_way : (a b c d e : Bool) (u v w x y z : Front) → a ≡ false → b ≡ false → c ≡ false → d ≡ false → e ≡ false
    → cond a u (cond b v (cond c w (cond d x (cond e y z)))) ≡ z
last_way a b c d e u v w x y z f g h i j = rw (f, g, h, i, j) refl

blank_apart : (c : ℕ) → is_word_start c ≡ true → is_blank c ≡ false
blank_apart c h = grind (arith, nat_tests)

digit_apart : (c : ℕ) → is_ascii_digit c ≡ true → (is_blank c ≡ false) × (is_word_start c ≡ false)
digit_apart c h = (grind (arith, nat_tests), grind (arith, nat_tests))

-- what begins with a digit is read as a number
digit_front : (c : ℕ) (cs : List ℕ) → is_ascii_digit c ≡ true → front_at (c ∷ cs) ≡ number_at (c ∷ cs)
digit_front c cs h = let a = digit_apart c h in rw (a.0, a.1, h) refl

number_front : (n : ℕ) (rest : List ℕ) → MayStand (number n) rest → front_at (decimal n ++ rest) ≡ Ok (number n, rest)
number_front n rest h = go (decimal n) refl (decimal_nonempty n (omega (arith, h.0))) (digits_decimal own n (omega (arith, h.0))) where
  go : (ds : List ℕ) → decimal n ≡ ds → 0 < length ds → AllPasses is_ascii_digit ds → front_at (decimal n ++ rest) ≡ Ok (number n, rest)
  go [] e some passes = absurd (omega arith)
  go (c ∷ cs) e some passes =
      let parts : decimal n ++ rest ≡ c ∷ (cs ++ rest) = ap (λ (z : List ℕ). z ++ rest) e in
      ap front_at parts ∙ digit_front c (cs ++ rest) passes.0 ∙ ap number_at (sym parts) ∙ number_again n rest h

-- a comment is found, and then whether an escape of Unicode begins in it
line_again : (body rest : List ℕ) → AllPasses is_in_line body → StopsAt is_in_line rest → line_at (body ++ rest) ≡
    comment (line body) rest (unicode_at false body)
line_again body rest passes stops =
    let n = span_again is_in_line body rest passes stops in
    rw (n, take_at body rest (length body) refl, drop_at body rest (length body) refl) refl

block_again : (body rest : List ℕ) → HasNoClose body → slash_at (42 ∷ (body ++ 42 ∷ 47 ∷ rest)) ≡
    comment (block body) rest (unicode_at false body)
block_again body rest h =
    let n = close_again body rest h in
    let two : length body + 2 ≡ suc (suc (length body)) = omega arith in
    rw (n, two, take_at body (42 ∷ 47 ∷ rest) (length body) refl)
    (ap (λ (z : List ℕ). comment (block body) z (unicode_at false body)) (past body)) where
      past : (xs : List ℕ) → drop (suc (suc (length xs))) (xs ++ 42 ∷ 47 ∷ rest) ≡ rest
      past [] = refl
      past (x ∷ xs) = past xs

pub front_again : (p : Piece) (rest : List ℕ) → MayStand p rest → front_at (spell p ++ rest) ≡ Ok (p, rest)
front_again (blank c) rest h = rw h refl
front_again (line body) rest (passes, stops, none) =
    line_again body rest passes stops ∙ ap (comment (line body) rest) (none_again body none)
front_again (block body) rest (closes, none) =
    ap (λ (z : List ℕ). slash_at (42 ∷ z)) (append_assoc body (42 ∷ 47 ∷ []) rest) ∙ block_again body rest closes
    ∙ ap (comment (block body) rest) (none_again body none)
front_again (word []) rest (starts, passes, stops) = absurd starts
front_again (word (c ∷ cs)) rest (starts, passes, stops) =
    second_way (is_blank c) (is_word_start c) _ _ _ (blank_apart c starts) starts ∙ ap (λ (x : Piece × List ℕ). Ok x)
    (word_again (c ∷ cs) rest passes stops)
front_again (number n) rest h = number_front n rest h
front_again (text ws) rest h = ap text_at (append_assoc (spelled ws) (34 ∷ []) rest) ∙ text_again ws rest h
front_again (sign s) rest h = sign_again s rest h

-- ---- where none may stand, none is found, for the same cause

close_none : (body : List ℕ) → ((u v : List ℕ) → body ≡ u ++ 42 ∷ 47 ∷ v → ⊥) → close_at body ≡ None
close_none body none = go (close_at body) refl where
  go : (o : Option ℕ) → close_at body ≡ o → close_at body ≡ None
  go None e = e
  go (Some n) e = absurd (none (take n body) (drop (suc (suc n)) body) (close_is body n e).parts)

-- no number is found where none may stand
number_none : (c : ℕ) (cs : List ℕ) → is_ascii_digit c ≡ true → ((n : ℕ) (after : List ℕ) → c ∷ cs ≡ decimal n ++ after →
    MayStand (number n) after → ⊥)
    → number_at (c ∷ cs) ≡ Err (causes.BadNumber, 0)
number_none c cs digit none = go (number_of ds after) refl (number_right c cs digit) where
  ds : List ℕ
  ds = take (span is_ascii_digit (c ∷ cs)) (c ∷ cs)

  after : List ℕ
  after = drop (span is_ascii_digit (c ∷ cs)) (c ∷ cs)

  go : (o : Option ℕ) → number_of ds after ≡ o → Right (c ∷ cs) (number_at (c ∷ cs)) → number_at (c ∷ cs) ≡ Err (causes.BadNumber, 0)
  go None e right = ap (numbered after) e
  go (Some n) e right =
      let s : Stands (c ∷ cs) (number n, after) = subst (Right (c ∷ cs)) (ap (numbered after) e) right in
      absurd (none n after s.0 s.1)

-- a byte that begins nothing
byte_none : (c : ℕ) (cs : List ℕ) → is_start c ≡ false → ((s : Sign) (after : List ℕ) → c ∷ cs ≡ written s ++ after → ⊥) →
    front_at (c ∷ cs) ≡ Err (causes.BadByte, 0)
byte_none c cs start none =
    let b = neither (is_blank c) _ start in
    let w = neither (is_word_start c) _ b.1 in
    let d = neither (is_ascii_digit c) (eqb c 34) w.1 in
    let slash : eqb c 47 ≡ false = (elim (either (eqb c 47)) [
      | inl t ↦ absurd (none signs.Slash cs (ap (λ (z : ℕ). z ∷ cs) (eqb-true c 47 t)))
      | inr f ↦ f
    ]) in
    last_way (is_blank c) (is_word_start c) (is_ascii_digit c) (eqb c 34) (eqb c 47) _ _ _ _ _ _ b.0 w.0 d.0 d.1 slash ∙ ap (sign_from c cs)
    (single_none c cs none)

unicode_stops : (p : Piece) (after : List ℕ) (n : ℕ) {o : Option ℕ} → o ≡ Some (suc n) → comment p after o ≡ Err (causes.BadByte, suc (suc n))
unicode_stops p after n e =
    let one : suc n + 1 ≡ suc (suc n) = omega arith in
    ap (comment p after) e ∙ ap (λ (k : ℕ). Err (causes.BadByte, k)) one

pub front_stops : (rest : List ℕ) {cause : Cause} {k : ℕ} → Stops rest cause k → front_at rest ≡ Err (cause, k)
front_stops rest (open_comment body parts none) = ap front_at parts ∙ ap (closed_block body) (close_none body none)
front_stops rest (line_unicode body after n parts passes stops first) =
    ap front_at parts ∙ line_again body after passes stops ∙ unicode_stops (line body) after n (first_again body n first)
front_stops rest (block_unicode body after n parts closes first) =
    ap front_at parts ∙ block_again body after closes ∙ unicode_stops (block body) after n (first_again body n first)
front_stops rest (open_text body parts none) = ap front_at parts ∙ text_open body none
front_stops rest (bad_escape good more c after parts fine bad in_line strokes) = ap front_at parts ∙ text_bad good more c after fine bad
    in_line strokes
front_stops rest (bad_number c cs parts digit none) =
    ap front_at parts ∙ digit_front c cs digit ∙ number_none c cs digit (λ n after p. none n after (parts ∙ p))
front_stops rest (bad_byte c cs parts start none) = ap front_at parts ∙ byte_none c cs start (λ s after p. none s after (parts ∙ p))

-- where it ends, some byte stands
pub stops_long : (rest : List ℕ) {cause : Cause} {k : ℕ} → Stops rest cause k → 0 < length rest
stops_long rest (open_comment body parts none) = omega (arith, ap length parts)
stops_long rest (line_unicode body after n parts passes stops first) = omega (arith, ap length parts)
stops_long rest (block_unicode body after n parts closes first) = omega (arith, ap length parts)
stops_long rest (open_text body parts none) = omega (arith, ap length parts)
stops_long rest (bad_escape good more c after parts fine bad in_line strokes) = omega (arith, ap length parts)
stops_long rest (bad_number c cs parts digit none) = omega (arith, ap length parts)
stops_long rest (bad_byte c cs parts start none) = omega (arith, ap length parts)
