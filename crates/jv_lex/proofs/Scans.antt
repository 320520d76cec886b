-- The scan from left to right: how far it has come, and what a turn adds.
use Rattle.std.proofs.Common.{◌≡◌, ℕ, suc, ◌+◌, ◌-◌, ◌<◌, ◌≤◌, List, [], ◌∷◌, ◌++◌, length, take, drop, Option, Some, None, Result, Ok, Err}
use Rattle.std.proofs.Common.{refl, sym, ap, ◌∙◌, subst, append_assoc, length-append, arith}
use Rattle.std.specs.List.{AllByRecursion}
use Rattle.std.specs.Prelude.{map, MatchOption}
use Rattle.std.specs.Str.{IsUtf8}
use Rattle.std.proofs.lemmas.Fmt.{decimal_nonempty}
use Rattle.std.proofs.lemmas.List.{append-nil, take_at, drop_at, length-drop}
use Rattle.mg_text.specs.Places.{start_of, place_after}
use Rattle.mg_text.specs.Row.{Row}
use Rattle.mg_text.specs.declared.place.Place.{Place}
use Rattle.jv_tree.specs.declared.token.Sign.{Sign}
use Rattle.jv_tree.specs.declared.token.Sign.TheVariants as signs
use Rattle.jv_tree.specs.declared.token.Token.{Token}
use Rattle.jv_tree.specs.Tokens as tokens
use Rattle.jv_lex.specs.declared.fault.Cause.{Cause}
use Rattle.jv_lex.specs.declared.fault.Cause.TheVariants as causes
use Rattle.jv_lex.specs.declared.front.FrontPiece.{FrontPiece}
use Rattle.jv_lex.specs.declared.front.Stop.{Stop}
use Rattle.jv_lex.specs.Letters.{is_word_byte}
use Rattle.jv_lex.specs.Comments.{FirstUnicode}
use Rattle.jv_lex.specs.Signs.{written}
use Rattle.jv_lex.specs.Written.{Written, spelled, meant, IsCharacter}
use Rattle.jv_lex.specs.Pieces.{Piece, blank, line, block, word, number, text, sign, spell, MayStand, Cut, tokens_of, tokens_from}
use Rattle.jv_lex.specs.Pieces.{AreTokens}
use Rattle.jv_lex.specs.Faults.{Stops, open_comment, line_unicode, block_unicode, open_text, bad_escape, bad_number, bad_byte, told}
use Rattle.jv_lex.specs.declared.fault.LexFault.{LexFault}
use Rattle.jv_lex.specs.declared.fault.LexFault.TheVariants as faults
use Rattle.jv_lex.specs.Outcome.{Lexing, Outcome, Answers}
use Rattle.jv_lex.specs.inner.Front.{Front, front_at, shown, shows, kind_of, inner, meaning, IsReadable, tokens_shown}
use Rattle.jv_lex.specs.inner.Scan.{IsWhole, IsStopped}
use Rattle.jv_lex.proofs.Right.{Stands, Right}
use Rattle.jv_lex.proofs.Texts.{strokes, characters_again}
use Rattle.jv_lex.proofs.Numbers.{below}
use Rattle.jv_lex.proofs.Fronts.{front_right}
use Rattle.jv_lex.proofs.Utf8.{after_piece, passing_ascii, word_low, text_utf8}
use Rattle.jv_lex.proofs.Cuts.{whole_or_stopped, stopped_once, one_outcome}

-- up to rest, which stands at an offset, the bytes are cut into pieces
pub record Reached (bytes : List ℕ) (offset : ℕ) (rest : List ℕ) : Type 0 where
  pub pieces : List Piece
  pub cut : Cut pieces bytes rest
  pub here : offset + length rest ≡ length bytes

-- the place behind a row of pieces
abbrev pub places_after : Place → List Piece → Place
places_after place [] = place
places_after place (p ∷ ps) = places_after (place_after place (spell p)) ps

-- the same of a file, with the tokens so far and the place of rest
pub record SoFar (file : ℕ) (bytes : List ℕ) (ts : List Token) (place : Place) (offset : ℕ) (rest : List ℕ) : Type 0 where
  pub reached : Reached bytes offset rest
  pub tokens : ts ≡ tokens_from (start_of file) reached.pieces
  pub at : place ≡ places_after (start_of file) reached.pieces

-- ---- pieces in a row

-- a cut goes on with one more piece
cut_more : (ps : List Piece) (p : Piece) (bytes rest after : List ℕ) → Cut ps bytes rest → Stands rest (p, after) →
    Cut (ps ++ p ∷ []) bytes after
cut_more [] p bytes rest after e (parts, stands) = (after, e ∙ parts, stands, refl)
cut_more (q ∷ ps) p bytes rest after (mid, parts, stands, h) s = (mid, parts, stands, cut_more ps p mid rest after h s)

-- the place behind one more piece
places_more : (ps : List Piece) (p : Piece) (place : Place) → places_after place (ps ++ p ∷ []) ≡ place_after (places_after place ps)
    (spell p)
places_more [] p place = refl
places_more (q ∷ ps) p place = places_more ps p (place_after place (spell q))

-- the tokens of one more piece are added at the end
tokens_more : (ps : List Piece) (p : Piece) (place : Place) → tokens_from place (ps ++ p ∷ []) ≡ tokens_from place ps
    ++ tokens_of (places_after place ps) p
tokens_more [] p place = append-nil (tokens_of place p)
tokens_more (q ∷ ps) p place =
    let next : Place = place_after place (spell q) in
    ap (λ (z : List Token). tokens_of place q ++ z) (tokens_more ps p next) ∙
    sym (append_assoc (tokens_of place q) (tokens_from next ps) (tokens_of (places_after next ps) p))

-- no piece is empty
nonempty : (p : Piece) (after : List ℕ) → MayStand p after → 0 < length (spell p)
nonempty (blank c) after h = omega arith
nonempty (line body) after h = omega arith
nonempty (block body) after h = omega arith
nonempty (word []) after h = absurd h.0
nonempty (word (c ∷ cs)) after h = omega arith
nonempty (number n) after h = decimal_nonempty n (below n h.0)
nonempty (text body) after h = omega arith
nonempty (sign s) after h = some_sign s where
  some_sign : (s : Sign) → 0 < length (written s)
  some_sign signs.OpenBrace = omega arith
  some_sign s = omega arith

-- the body of a text is what stands between its quotes
inner_text : (body : List ℕ) → inner (34 ∷ (body ++ 34 ∷ [])) ≡ body
inner_text body =
    let n : suc (length (body ++ 34 ∷ [])) - 2 ≡ length body = omega (arith, length-append body (34 ∷ [])) in
    rw n (take_at body (34 ∷ []) (length body) refl)

-- and means what its characters do
meaning_is : (ws : List Written) → AllByRecursion IsCharacter ws → meaning (inner (34 ∷ (spelled ws ++ 34 ∷ []))) ≡ map meant ws
meaning_is ws h = ap meaning (inner_text (spelled ws)) ∙ ap (map meant) (characters_again ws (strokes ws h))

-- the code is told what the piece is
shown_is : (place : Place) (p : Piece) (after : List ℕ) → MayStand p after → tokens_shown place (kind_of p) (spell p) ≡ tokens_of place p
shown_is place (blank c) after h = refl
shown_is place (line body) after h = refl
shown_is place (block body) after h = refl
shown_is place (word name) after h = refl
shown_is place (number n) after h = refl
shown_is place (text ws) after h = ap (λ (z : List ℕ). tokens.quoted place z ∷ []) (meaning_is ws h)
shown_is place (sign s) after h = refl

-- a word is ASCII, and what a text means is UTF-8
readable : (p : Piece) (after : List ℕ) → MayStand p after → IsUtf8 (spell p ++ after) → IsReadable (kind_of p) (spell p)
readable (blank c) after h u = tt
readable (line body) after h u = tt
readable (block body) after h u = tt
readable (word name) after h u = passing_ascii is_word_byte name word_low h.1
readable (number n) after h u = tt
readable (text ws) after h u = (
  omega (arith, length-append (spelled ws) (34 ∷ [])),
  subst IsUtf8 (sym (meaning_is ws h))
      (text_utf8 ws after h u),
)
readable (sign s) after h u = tt

unicode_within : (body : List ℕ) (n : ℕ) → FirstUnicode body n → n < length body
unicode_within body n f = omega (arith, f.long, ap length f.parts, length-append f.before (92 ∷ 117 ∷ f.after))

-- a cause stands within what is left
stops_within : (rest : List ℕ) {cause : Cause} {n : ℕ} → Stops rest cause n → n < length rest
stops_within rest (open_comment body parts none) = omega (arith, ap length parts)
stops_within rest (line_unicode body after n parts passes stops first) =
    omega (arith, ap length parts, length-append body after, unicode_within body n first)
stops_within rest (block_unicode body after n parts closes first) =
    omega (arith, ap length parts, length-append body (42 ∷ 47 ∷ after), unicode_within body n first)
stops_within rest (open_text body parts none) = omega (arith, ap length parts)
stops_within rest (bad_escape good more c after parts fine bad in_line strokes) =
    omega (arith, ap length parts, length-append (spelled good) (92 ∷ c ∷ (spelled more ++ 34 ∷ after)))
stops_within rest (bad_number c cs parts digit none) = omega (arith, ap length parts)
stops_within rest (bad_byte c cs parts start none) = omega (arith, ap length parts)

-- ---- the piece at the front

right_at : (rest : List ℕ) → 0 < length rest → Right rest (front_at rest)
right_at [] long = absurd (omega arith)
right_at (c ∷ cs) long = front_right c cs

-- the piece at the front, of which the code is told this
pub record FrontOf (told : FrontPiece) (rest : List ℕ) : Type 0 where
  pub piece : Piece
  pub after : List ℕ
  pub stands : Stands rest (piece, after)
  pub shows : told ≡ shows (piece, after)

pub front_of : (told : FrontPiece) (rest : List ℕ) → 0 < length rest → Ok told ≡ shown (front_at rest) → FrontOf told rest
front_of told rest long e = go (front_at rest) (right_at rest long) e where
  go : (f : Front) → Right rest f → Ok told ≡ shown f → FrontOf told rest
  go (Ok x) right e = record { piece = x.0; after = x.1; stands = right; shows = cc }
  go (Err x) right e = absurd cc

-- and why none stands there
pub stop_told : (told : Stop) (rest : List ℕ) → 0 < length rest → Err told ≡ shown (front_at rest) → Stops rest told.cause told.at
stop_told told rest long e = go (front_at rest) (right_at rest long) e where
  go : (f : Front) → Right rest f → Err told ≡ shown f → Stops rest told.cause told.at
  go (Ok x) right e = absurd cc
  go (Err x) right e = let same : told ≡ record { cause = x.0; at = x.1 } = cc in subst (λ (z : Stop). Stops rest z.cause z.at) (sym same)
      right

module _ (told : FrontPiece) (rest : List ℕ) (f : FrontOf told rest) where
  len_is : told.len ≡ length (spell f.piece)
  len_is = ap (λ (s : FrontPiece). s.len) f.shows

  kind_is : told.kind ≡ kind_of f.piece
  kind_is = ap (λ (s : FrontPiece). s.kind) f.shows

  text_is : take told.len rest ≡ spell f.piece
  text_is = rw (len_is, f.stands.0) (take_at (spell f.piece) f.after (length (spell f.piece)) refl)

  after_is : drop told.len rest ≡ f.after
  after_is = rw (len_is, f.stands.0) (drop_at (spell f.piece) f.after (length (spell f.piece)) refl)

  -- the piece is within the bytes
  pub front_within : told.len ≤ length rest
  front_within = omega (arith, len_is, ap length f.stands.0, length-append (spell f.piece) f.after)

  pub front_long : 0 < told.len
  front_long = omega (arith, len_is, nonempty f.piece f.after f.stands.1)

  pub front_shorter : length (drop told.len rest) < length rest
  front_shorter = omega (arith, length-drop told.len rest, front_within, front_long)

  -- what follows it is UTF-8
  pub front_utf8 : IsUtf8 rest → IsUtf8 (drop told.len rest)
  front_utf8 u = subst IsUtf8 (sym after_is) (after_piece f.piece f.after f.stands.1 (subst IsUtf8 f.stands.0 u))

  -- the bytes that the code takes can be kept
  pub front_readable : IsUtf8 rest → IsReadable told.kind (take told.len rest)
  front_readable u = rw (text_is, kind_is) (readable f.piece f.after f.stands.1 (subst IsUtf8 f.stands.0 u))

  pub reached_more : (bytes : List ℕ) (offset : ℕ) → Reached bytes offset rest → Reached bytes (offset + told.len) (drop told.len rest)
  reached_more bytes offset h =
      record {
        pieces = h.pieces ++ f.piece ∷ [];
        cut = subst (Cut (h.pieces ++ f.piece ∷ []) bytes) (sym after_is) (cut_more h.pieces f.piece bytes rest f.after h.cut f.stands);
        here = omega (arith, h.here, length-drop told.len rest, front_within);
      }

  -- a turn of the loop keeps what is so far
  pub so_far_more : (file : ℕ) (bytes : List ℕ) (ts : List Token) (place : Place) (offset : ℕ) → SoFar file bytes ts place offset rest
      → SoFar file bytes (ts ++ tokens_shown place told.kind (take told.len rest)) (place_after place (take told.len rest))
      (offset + told.len) (drop told.len rest)
  unfolding reached_more
  so_far_more file bytes ts place offset h =
      let start : Place = start_of file in
      let ps : List Piece = h.reached.pieces in
      let said : tokens_shown place told.kind (take told.len rest) ≡ tokens_of place f.piece =
      rw (text_is, kind_is) (shown_is place f.piece f.after f.stands.1) in
      record {
        reached = reached_more bytes offset h.reached;
        tokens = ap (λ (z : List Token). z ++ tokens_shown place told.kind (take told.len rest)) h.tokens
            ∙ ap (λ (z : List Token). tokens_from start ps ++ z) (said ∙ ap (λ (k : Place). tokens_of k f.piece) h.at)
            ∙ sym (tokens_more ps f.piece start);
        at = ap (λ (z : List ℕ). place_after place z) text_is ∙ ap (λ (k : Place). place_after k (spell f.piece)) h.at ∙
            sym (places_more ps f.piece start);
      }

-- ---- the scan

pub reached_start : (bytes : List ℕ) → Reached bytes 0 bytes
reached_start bytes = record { pieces = []; cut = refl; here = omega arith }

pub so_far_start : (file : ℕ) (bytes : List ℕ) → SoFar file bytes [] (start_of file) 0 bytes
unfolding reached_start
so_far_start file bytes = record { reached = reached_start bytes; tokens = refl; at = refl }

pub so_far_whole : (file : ℕ) (bytes : List ℕ) (ts : List Token) (place : Place) (offset : ℕ) (rest : List ℕ) → length rest ≡ 0 →
    IsUtf8 bytes
    → SoFar file bytes ts place offset rest → AreTokens file ts bytes
so_far_whole file bytes ts place offset [] e u h = record { pieces = h.reached.pieces; cut = h.reached.cut; utf8 = u; tokens = h.tokens }
so_far_whole file bytes ts place offset (c ∷ cs) e u h = absurd (omega arith)

-- where the pieces stop
pub reached_stop : (bytes : List ℕ) (offset : ℕ) (rest : List ℕ) (cause : Cause) (n : ℕ) → Stops rest cause n → Reached bytes offset rest →
    IsStopped bytes cause (offset + n)
reached_stop bytes offset rest cause n s h = record {
  pieces = h.pieces;
  rest = rest;
  behind = n;
  cut = h.cut;
  stops = s;
  here =
      omega (arith, h.here);
}

-- which is within the bytes
pub stop_within : (bytes : List ℕ) (offset : ℕ) (rest : List ℕ) (cause : Cause) (n : ℕ) → Stops rest cause n → Reached bytes offset rest →
    offset + n < length bytes
stop_within bytes offset rest cause n s h = omega (arith, h.here, stops_within rest s)

-- ---- what is told

pub told_answers : (cause : Cause) (place : Place) (P : Lexing → Type 0) → P (Err (told cause place)) → Answers (Err (told cause place)) P
told_answers causes.BadByte place P h = h
told_answers causes.OpenComment place P h = h
told_answers causes.OpenText place P h = h
told_answers causes.BadEscape place P h = h
told_answers causes.BadNumber place P h = h

-- no piece stops before this offset
pub none_before : (bytes : List ℕ) (at : ℕ) (o : Option Stop) → MatchOption o (IsWhole bytes) (λ s. IsStopped bytes s.cause s.at) →
    ((s : Stop) → o ≡ Some s → at ≤ s.at)
    → (d : Cause) (j : ℕ) → IsStopped bytes d j → at ≤ j
none_before bytes at None h behind d j t = absurd (whole_or_stopped h.0 bytes d j h.1 t)
none_before bytes at (Some s) h behind d j t = omega (arith, behind s refl, (stopped_once bytes s.cause d s.at j h t).1)

-- what is so is what was answered
pub only_answer : (file : ℕ) (bytes : List ℕ) (result : Result (Row Token) LexFault) → Answers result (Outcome file bytes) → (r : Lexing) →
    Outcome file bytes r → Answers result (λ a. a ≡ r)
only_answer file bytes (Ok found) h r o = one_outcome file bytes h o
only_answer file bytes (Err faults.Memory) h r o = tt
only_answer file bytes (Err (faults.TooLarge place)) h r o = one_outcome file bytes h o
only_answer file bytes (Err (faults.BadByte place)) h r o = one_outcome file bytes h o
only_answer file bytes (Err (faults.OpenComment place)) h r o = one_outcome file bytes h o
only_answer file bytes (Err (faults.OpenText place)) h r o = one_outcome file bytes h o
only_answer file bytes (Err (faults.BadEscape place)) h r o = one_outcome file bytes h o
only_answer file bytes (Err (faults.BadNumber place)) h r o = one_outcome file bytes h o
