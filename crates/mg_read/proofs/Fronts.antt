-- The piece that is read is the piece that may stand there, and the only one.
use Rattle.std.proofs.Common.{◌≡◌, ℕ, zero, suc, ◌+◌, ◌-◌, ◌<◌, ◌≤◌, List, [], ◌∷◌, ◌++◌, length, take, drop, Bool, true, false, cond, eqb}
use Rattle.std.proofs.Common.{Option, Some, None, refl, sym, ap, ◌∙◌, subst, append_assoc, length-append, arith, inl, inr, ◌⊎◌}
use Rattle.std.specs.Prelude.{◌||◌, ◌&&◌, ◌==◌, option_map, nat_lt, not}
use Rattle.std.specs.Str.{IsAscii}
use Rattle.std.proofs.lemmas.Bool.{eqb-true}
use Rattle.std.proofs.lemmas.Bool.Decides.{nat_tests}
use Rattle.std.proofs.lemmas.List.{take_at, drop_at, length-drop}
use Rattle.std.proofs.lemmas.Str.Ascii.{IsAscii-nil, IsAscii-cons, IsAscii-push}
use Rattle.mg_read.specs.declared.front.FrontPiece.{FrontPiece}
use Rattle.mg_read.specs.Letters.{is_blank, is_name_start, is_name_byte, is_quotable, not_line_end}
use Rattle.mg_read.specs.Passes.{AllPasses, StopsAt, StartsWith, span}
use Rattle.mg_read.specs.Pieces.{Table, is_sign, Piece, blank, line, block, word, quote, sign, spell, MayStand, texted, content_of}
use Rattle.mg_read.specs.Reader.{◌>>=◌}
use Rattle.mg_read.specs.inner.Fronts.{close_at, comment_at, sign_at, word_at, closed_quote, quote_at, piece_at, shows, kind_of}
use Rattle.mg_read.specs.inner.Fronts.{content_shown, inner, IsReadable}
use Rattle.mg_read.proofs.Steps.{bind_some, some_is, none_is_not, chosen}
use Rattle.mg_read.proofs.Spans.{map_some, either, span_is, span_again, close_is, close_again}

-- ---- tests that exclude each other

-- one of two tests passed
or_is : (a b : Bool) → (a || b) ≡ true → (a ≡ true) ⊎ (b ≡ true)
or_is true b h = inl refl
or_is false b h = inr h

-- what is so at each blank
blank_is : (P : ℕ → Type 0) (c : ℕ) → is_blank c ≡ true → P 32 → P 9 → P 10 → P 13 → P c
blank_is P c h p32 p9 p10 p13 =
    elim (or_is (eqb c 32) (eqb c 9 || (eqb c 10 || eqb c 13)) h) [
      | inl e ↦ subst P (sym (eqb-true c 32 e)) p32
      | inr h ↦ elim (or_is (eqb c 9) (eqb c 10 || eqb c 13) h) [
        | inl e ↦ subst P (sym (eqb-true c 9 e)) p9
        | inr h ↦ elim (or_is (eqb c 10) (eqb c 13) h) [
          | inl e ↦ subst P (sym (eqb-true c 10 e)) p10
          | inr e ↦ subst P (sym (eqb-true c 13 e)) p13
        ]
      ]
    ]

-- no name starts with this byte
abbrev NoStart : ℕ → Type 0
NoStart c = is_name_start c ≡ false

-- no blank starts a name
start_not_blank : (c : ℕ) → is_name_start c ≡ true → is_blank c ≡ false
start_not_blank c h = elim (either (is_blank c)) [
  | inl b ↦ let n : NoStart c = blank_is NoStart c b refl refl refl refl in absurd (let e : true ≡ false = sym h ∙ n in cc)
  | inr f ↦ f
]

-- this byte begins no blank, no word, no comment and no text
abbrev pub is_apart : ℕ → Bool
is_apart c = not (is_blank c || (is_name_start c || (c == 47 || c == 34)))

-- the signs of a table begin nothing else
abbrev pub AreApart : List ℕ → Type 0
AreApart signs = AllPasses is_apart signs

sign_apart : (signs : List ℕ) (c : ℕ) → AreApart signs → is_sign signs c ≡ true → is_apart c ≡ true
sign_apart [] c apart e = absurd cc
sign_apart (s ∷ signs) c apart e =
    elim (or_is (eqb s c) (is_sign signs c) e) [
      | inl h ↦ subst (λ (k : ℕ). is_apart k ≡ true) (eqb-true s c h) apart.0
      | inr h ↦ sign_apart signs c apart.1 h
    ]

-- what such a byte does not begin
pub record Apart (c : ℕ) : Type 0 where
  pub blank : is_blank c ≡ false
  pub name : is_name_start c ≡ false
  pub comment : eqb c 47 ≡ false
  pub text : eqb c 34 ≡ false

apart_is : (c : ℕ) → is_apart c ≡ true → Apart c
apart_is c h = go (is_blank c) (is_name_start c) (eqb c 47) (eqb c 34) refl refl refl refl h where
  go : (b n s q : Bool) → is_blank c ≡ b → is_name_start c ≡ n → eqb c 47 ≡ s → eqb c 34 ≡ q → not (b || (n || (s || q))) ≡ true → Apart c
  go true n s q e f g k h = absurd cc
  go false true s q e f g k h = absurd cc
  go false false true q e f g k h = absurd cc
  go false false false true e f g k h = absurd cc
  go false false false false e f g k h = record { blank = e; name = f; comment = g; text = k }

-- the piece stands at the front of the bytes
abbrev pub Stands : Table → List ℕ → Piece × List ℕ → Type 0
Stands t bytes x = (bytes ≡ spell x.0 ++ x.1) × MayStand t x.0 x.1

-- what starts a name may stand in it
start_passes : (c : ℕ) → is_name_start c ≡ true → is_name_byte c ≡ true
start_passes c h = rw h refl

-- the word at the front, and what follows it
abbrev the_word : List ℕ → Piece × List ℕ
the_word bytes = (word (take (span is_name_byte bytes) bytes), drop (span is_name_byte bytes) bytes)

-- n bytes are taken at most
take_short : (n : ℕ) (xs : List ℕ) → length (take n xs) ≤ n
take_short zero xs = omega arith
take_short (suc n) [] = omega arith
take_short (suc n) (x ∷ xs) = omega (arith, take_short n xs)

-- what the test of a length says where it fails
test_short : (n : ℕ) → nat_lt 255 n ≡ false → n ≤ 255
test_short n h = grind (arith, nat_tests)

-- the test of a length fails for a name
test_of_short : (n : ℕ) → n ≤ 255 → nat_lt 255 n ≡ false
test_of_short n h = grind (arith, nat_tests)

-- a body that a quote closes
closed_is : (body rest : List ℕ) (x : Piece × List ℕ) → closed_quote body rest ≡ Some x → (after : List ℕ) × (rest ≡ 34 ∷ after)
    × ((quote body, after) ≡ x)
closed_is body [] x e = absurd (none_is_not x e)
closed_is body (c ∷ cs) x e =
    elim (chosen (eqb c 34) (Some (quote body, cs)) None (Some x) e) [
      | inl h ↦ (cs, ap (λ (z : ℕ). z ∷ cs) (eqb-true c 34 h.0), some_is (quote body, cs) x h.1)
      | inr h ↦ absurd (none_is_not x h.1)
    ]

-- the second of three ways is taken
second_way : {A : Type 0} (a b : Bool) (x y z : A) → a ≡ false → b ≡ true → cond a x (cond b y z) ≡ y
second_way a b x y z f t = rw (f, t) refl

-- a word that may stand is read
word_again : (text rest : List ℕ) → AllPasses is_name_byte text → StopsAt is_name_byte rest → length text ≤ 255 →
    word_at (text ++ rest) ≡ Some (word text, rest)
word_again text rest passes stops short =
    let n = span_again is_name_byte text rest passes stops in
    let long = test_of_short (length text) short in
    rw (n, long, take_at text rest (length text) refl, drop_at text rest (length text) refl) refl

-- the body of a quoted text is what stands between its quotes
inner_quote : (body : List ℕ) → inner (34 ∷ (body ++ 34 ∷ [])) ≡ body
inner_quote body =
    let n : suc (length (body ++ 34 ∷ [])) - 2 ≡ length body = omega (arith, length-append body (34 ∷ [])) in
    rw n (take_at body (34 ∷ []) (length body) refl)

-- bytes that pass a test of ASCII are ASCII
passing_ascii : (p : ℕ → Bool) (xs : List ℕ) → ((c : ℕ) → p c ≡ true → c < 128) → AllPasses p xs → IsAscii xs
passing_ascii p [] below h = IsAscii-nil
passing_ascii p (c ∷ cs) below h = IsAscii-cons c cs (below c h.0) (passing_ascii p cs below h.1)

-- names are ASCII
name_byte_ascii : (c : ℕ) → is_name_byte c ≡ true → c < 128
name_byte_ascii c h = grind (arith, nat_tests)

-- quoted texts are ASCII
quotable_ascii : (c : ℕ) → is_quotable c ≡ true → c < 128
quotable_ascii c h = grind (arith, nat_tests)

-- the code is told what the piece says
pub content_is : (p : Piece) → content_shown (kind_of p) (spell p) ≡ content_of p
content_is (blank c) = refl
content_is (line body) = refl
content_is (block body) = refl
content_is (word text) = refl
content_is (quote body) = ap (λ (z : List ℕ). Some (texted z)) (inner_quote body)
content_is (sign c) = refl

-- both tests passed
and_is : (a b : Bool) → (a && b) ≡ true → (a ≡ true) × (b ≡ true)
and_is true b h = (refl, h)
and_is false b h = absurd cc

and_false : (a : Bool) → (a && false) ≡ false
and_false true = refl
and_false false = refl

-- the fifth of six ways is taken
fifth_way : {A : Type 0} (a b c d e : Bool) (u v w x y z : A) → a ≡ false → b ≡ false → c ≡ false → d ≡ false → e ≡ true
    → cond a u (cond b v (cond c w (cond d x (cond e y z)))) ≡ y
fifth_way a b c d e u v w x y z f g h i j = rw (f, g, h, i, j) refl

module _ (t : Table) where
  -- ---- what is read may stand there

  -- a word that is no longer than a name may be stands
  word_stands : (c : ℕ) (cs : List ℕ) → is_name_start c ≡ true → span is_name_byte (c ∷ cs) ≤ 255 → Stands t (c ∷ cs) (the_word (c ∷ cs))
  word_stands c cs h short =
      let r = span_is is_name_byte (c ∷ cs) in
      (r.parts, (starts (span is_name_byte (c ∷ cs)) r.stops, r.passes, r.stops, fits (span is_name_byte (c ∷ cs)) short)) where
        starts : (n : ℕ) → StopsAt is_name_byte (drop n (c ∷ cs)) → StartsWith is_name_start (take n (c ∷ cs))
        starts zero stops = let e : true ≡ false = sym (start_passes c h) ∙ stops in absurd cc
        starts (suc n) stops = h

        fits : (n : ℕ) → n ≤ 255 → length (take n (c ∷ cs)) ≤ 255
        fits n h = omega (arith, take_short n (c ∷ cs))

  -- the word that is read stands
  word_at_stands : (c : ℕ) (cs : List ℕ) (x : Piece × List ℕ) → is_name_start c ≡ true → word_at (c ∷ cs) ≡ Some x → Stands t (c ∷ cs) x
  word_at_stands c cs x h e =
      elim (chosen (nat_lt 255 (span is_name_byte (c ∷ cs))) None (Some (the_word (c ∷ cs))) (Some x) e) [
        | inl t ↦ absurd (none_is_not x t.1)
        | inr f ↦ subst (Stands t (c ∷ cs)) (some_is (the_word (c ∷ cs)) x f.1)
            (word_stands c cs h (test_short (span is_name_byte (c ∷ cs)) f.0))
      ]

  -- the comment that is read stands
  comment_stands : (c : ℕ) (cs : List ℕ) (x : Piece × List ℕ) → c ≡ 47 → comment_at cs ≡ Some x → Stands t (c ∷ cs) x
  comment_stands c [] x is e = absurd (none_is_not x e)
  comment_stands c (d ∷ ds) x is e =
      elim (chosen (eqb d 47) (Some (line (take (span not_line_end ds) ds), drop (span not_line_end ds) ds)) _ (Some x) e) [
        | inl h ↦
            let r = span_is not_line_end ds in
            subst (Stands t (c ∷ d ∷ ds)) (some_is (line (take (span not_line_end ds) ds), drop (span not_line_end ds) ds) x h.1)
            (rw (is, eqb-true d 47 h.0) (ap (λ (z : List ℕ). 47 ∷ 47 ∷ z) r.parts), (r.passes, r.stops))
        | inr h ↦ elim (chosen (eqb d 42) (close_at ds >>= λ n. Some (block (take n ds), drop (n + 2) ds)) None (Some x) h.1) [
          | inl h ↦
              let n = bind_some (close_at ds) (λ n. Some (block (take n ds), drop (n + 2) ds)) x h.1 in
              let r = close_is ds n.0 n.1 in
              let two : suc (suc n.0) ≡ n.0 + 2 = omega arith in
              let body : List ℕ = take n.0 ds in
              let parts : ds ≡ (body ++ 42 ∷ 47 ∷ []) ++ drop (n.0 + 2) ds = subst (λ (k : ℕ). ds ≡ (body ++ 42 ∷ 47 ∷ []) ++ drop k ds) two
              (r.parts ∙ sym (append_assoc body (42 ∷ 47 ∷ []) (drop (suc (suc n.0)) ds))) in
              subst (Stands t (c ∷ d ∷ ds)) (some_is (block body, drop (n.0 + 2) ds) x n.2)
              (rw (is, eqb-true d 42 h.0) (ap (λ (z : List ℕ). 47 ∷ 42 ∷ z) parts), r.first)
          | inr h ↦ absurd (none_is_not x h.1)
        ]
      ]

  -- the quoted text that is read stands
  quote_stands : (c : ℕ) (cs : List ℕ) (x : Piece × List ℕ) → t.has_texts ≡ true → c ≡ 34 → quote_at cs ≡ Some x → Stands t (c ∷ cs) x
  quote_stands c cs x has is e =
      let r = span_is is_quotable cs in
      let body : List ℕ = take (span is_quotable cs) cs in
      let q = closed_is body (drop (span is_quotable cs) cs) x e in
      let parts : cs ≡ (body ++ 34 ∷ []) ++ q.0 = r.parts ∙ ap (λ (z : List ℕ). body ++ z) q.1 ∙ sym (append_assoc body (34 ∷ []) q.0) in
      subst (Stands t (c ∷ cs)) q.2 (rw is (ap (λ (z : List ℕ). 34 ∷ z) parts), (has, r.passes))

  -- the piece that is read stands
  pub piece_stands : (bytes : List ℕ) (x : Piece × List ℕ) → piece_at t bytes ≡ Some x → Stands t bytes x
  piece_stands [] x e = absurd (none_is_not x e)
  piece_stands (c ∷ cs) x e =
      elim (chosen (is_blank c) (Some (blank c, cs)) _ (Some x) e) [
        | inl h ↦ subst (Stands t (c ∷ cs)) (some_is (blank c, cs) x h.1) (refl, h.0)
        | inr h ↦ elim (chosen (is_name_start c) (word_at (c ∷ cs)) _ (Some x) h.1) [
          | inl h ↦ word_at_stands c cs x h.0 h.1
          | inr h ↦ elim (chosen (eqb c 47) (comment_at cs) _ (Some x) h.1) [
            | inl h ↦ comment_stands c cs x (eqb-true c 47 h.0) h.1
            | inr h ↦ elim (chosen (t.has_texts && eqb c 34) (quote_at cs) (sign_at t.signs c cs) (Some x) h.1) [
              | inl h ↦ let q = and_is t.has_texts (eqb c 34) h.0 in quote_stands c cs x q.0 (eqb-true c 34 q.1) h.1
              | inr h ↦ elim (chosen (is_sign t.signs c) (Some (sign c, cs)) None (Some x) h.1) [
                | inl h ↦ subst (Stands t (c ∷ cs)) (some_is (sign c, cs) x h.1) (refl, h.0)
                | inr h ↦ absurd (none_is_not x h.1)
              ]
            ]
          ]
        ]
      ]

  -- ---- what may stand there is read

  -- a piece that may stand is read
  pub piece_again : AreApart t.signs → (p : Piece) (rest : List ℕ) → MayStand t p rest → piece_at t (spell p ++ rest) ≡ Some (p, rest)
  piece_again apart (blank c) rest h = rw h refl
  piece_again apart (line body) rest (passes, stops) =
      let n = span_again not_line_end body rest passes stops in
      rw (n, take_at body rest (length body) refl, drop_at body rest (length body) refl) refl
  piece_again apart (block body) rest h =
      let n = close_again body rest h in
      let two : length body + 2 ≡ suc (suc (length body)) = omega arith in
      rw (append_assoc, n, two, take_at body (42 ∷ 47 ∷ rest) (length body) refl) (ap (λ (z : List ℕ). Some (block body, z)) (past body))
    where
      past : (xs : List ℕ) → drop (suc (suc (length xs))) (xs ++ 42 ∷ 47 ∷ rest) ≡ rest
      past [] = refl
      past (x ∷ xs) = past xs
  piece_again apart (word []) rest (starts, passes, stops, short) = absurd starts
  piece_again apart (word (c ∷ cs)) rest (starts, passes, stops, short) =
      second_way (is_blank c) (is_name_start c) _ _ _ (start_not_blank c starts) starts ∙ word_again (c ∷ cs) rest passes stops short
  piece_again apart (quote body) rest (has, h) =
      let n = span_again is_quotable body (34 ∷ rest) h refl in
      rw (has, append_assoc, n, take_at body (34 ∷ rest) (length body) refl, drop_at body (34 ∷ rest) (length body) refl) refl
  piece_again apart (sign c) rest h =
      let a = apart_is c (sign_apart t.signs c apart h) in
      fifth_way (is_blank c) (is_name_start c) (eqb c 47) (t.has_texts && eqb c 34) (is_sign t.signs c) _ _ _ _ _ _
      a.blank a.name a.comment (ap (λ b. t.has_texts && b) a.text ∙ and_false t.has_texts) h

  -- ---- what the code is told of a piece

  -- the piece at the front, of which the code is told this
  pub record Front (shown : FrontPiece) (rest : List ℕ) : Type 0 where
    pub piece : Piece
    pub after : List ℕ
    pub stands : Stands t rest (piece, after)
    pub shows : shown ≡ shows (piece, after)

  -- what the code is told of is the piece at the front
  pub front_is : (shown : FrontPiece) (rest : List ℕ) → Some shown ≡ option_map shows (piece_at t rest) → Front shown rest
  front_is shown rest e =
      let x = map_some (piece_at t rest) shows shown (sym e) in
      record { piece = x.0.0; after = x.0.1; stands = piece_stands rest x.0 x.1; shows = sym x.2 }

  -- where the code is told of none, none is read
  pub none_front : (rest : List ℕ) → None ≡ option_map shows (piece_at t rest) → piece_at t rest ≡ None
  none_front rest e = by_cases (piece_at t rest) e where
    by_cases : (o : Option (Piece × List ℕ)) → None ≡ option_map shows o → o ≡ None
    by_cases None e = refl
    by_cases (Some x) e = absurd (none_is_not (shows x) e)

  -- the code is told of what is read at the table's signs
  module _ (rest : List ℕ) {signs : List ℕ} {told : Option FrontPiece} (is : signs ≡ t.signs)
      (e : told ≡ option_map shows (piece_at (record { signs = signs; has_texts = t.has_texts }) rest)) where
    at_table : told ≡ option_map shows (piece_at t rest)
    at_table = e ∙ ap (λ (s : List ℕ). option_map shows (piece_at (record { signs = s; has_texts = t.has_texts }) rest)) is

    -- the piece that the code is told of
    pub told_front : {shown : FrontPiece} → told ≡ Some shown → Front shown rest
    told_front {shown = shown} h = front_is shown rest (sym h ∙ at_table)

    -- where it is told of none
    pub told_none : told ≡ None → piece_at t rest ≡ None
    told_none h = none_front rest (sym h ∙ at_table)

  -- the piece is within the bytes
  pub front_within : (shown : FrontPiece) (rest : List ℕ) → Front shown rest → shown.len ≤ length rest
  front_within shown rest f =
      let e : shown.len ≡ length (spell f.piece) = ap (λ (s : FrontPiece). s.len) f.shows in
      omega (arith, e, ap length f.stands.0, length-append (spell f.piece) f.after)

  -- no piece is empty
  nonempty : (p : Piece) (after : List ℕ) → MayStand t p after → 0 < length (spell p)
  nonempty (blank c) after h = omega arith
  nonempty (line body) after h = omega arith
  nonempty (block body) after h = omega arith
  nonempty (word []) after h = absurd h.0
  nonempty (word (c ∷ cs)) after h = omega arith
  nonempty (quote body) after h = omega arith
  nonempty (sign c) after h = omega arith

  -- the piece that the code is told of is not empty
  pub front_long : (shown : FrontPiece) (rest : List ℕ) → Front shown rest → 0 < shown.len
  front_long shown rest f =
      let e : shown.len ≡ length (spell f.piece) = ap (λ (s : FrontPiece). s.len) f.shows in
      omega (arith, e, nonempty f.piece f.after f.stands.1)

  -- what follows the piece is shorter
  pub front_shorter : (shown : FrontPiece) (rest : List ℕ) → Front shown rest → length (drop shown.len rest) < length rest
  front_shorter shown rest f = omega (arith, length-drop shown.len rest, front_within shown rest f, front_long shown rest f)

  -- the bytes that the code takes are the spelling of the piece
  pub text_is : (shown : FrontPiece) (rest : List ℕ) (f : Front shown rest) → take shown.len rest ≡ spell f.piece
  text_is shown rest f =
      let len_is : shown.len ≡ length (spell f.piece) = ap (λ (s : FrontPiece). s.len) f.shows in
      rw (len_is, f.stands.0) (take_at (spell f.piece) f.after (length (spell f.piece)) refl)

  -- the spelling of a word or a quoted text is ASCII
  readable : (p : Piece) (after : List ℕ) → MayStand t p after → IsReadable (kind_of p) (spell p)
  readable (blank c) after h = tt
  readable (line body) after h = tt
  readable (block body) after h = tt
  readable (word text) after h = passing_ascii is_name_byte text name_byte_ascii h.1
  readable (quote body) after h = (
    omega (arith, length-append body (34 ∷ [])),
    IsAscii-cons 34 (body ++ 34 ∷ []) (omega arith)
        (IsAscii-push body 34 (passing_ascii is_quotable body quotable_ascii h.1) (omega arith)),
  )
  readable (sign c) after h = tt

  -- the text that the code takes can be kept
  pub front_readable : (shown : FrontPiece) (rest : List ℕ) → Front shown rest → IsReadable shown.kind (take shown.len rest)
  front_readable shown rest f =
      let kind_is : shown.kind ≡ kind_of f.piece = ap (λ (s : FrontPiece). s.kind) f.shows in
      rw (text_is shown rest f, kind_is) (readable f.piece f.after f.stands.1)
