-- There is one way to cut bytes into pieces, and a scan from left to right finds it.
use Rattle.std.proofs.Common.{◌≡◌, ℕ, ◌+◌, ◌<◌, ◌≤◌, List, [], ◌∷◌, ◌++◌, length, take, drop, Option, Some, None, refl, sym, ap, ◌∙◌, subst}
use Rattle.std.proofs.Common.{append_assoc, length-append, arith}
use Rattle.std.specs.Prelude.{MatchOption, Result, Ok, Err, min, nat_lt, Bool, true, false}
use Rattle.std.proofs.lemmas.Bool.Decides.{nat_tests}
use Rattle.std.specs.Str.{IsUtf8, IsValidUpTo}
use Rattle.std.proofs.lemmas.List.{drop_at, append-nil, take_all}
use Rattle.std.proofs.lemmas.Str.{utf8_valid_len-IsValidUpTo}
use Rattle.mg_text.specs.Places.{start_of, place_after}
use Rattle.mg_text.specs.declared.place.Place.{Place}
use Rattle.mg_read.specs.declared.fault.LexFault.{LexFault}
use Rattle.mg_read.specs.declared.fault.LexFault.TheVariants as faults
use Rattle.mg_read.specs.Lexed.{MatchLexed}
use Rattle.mg_read.specs.declared.front.FrontPiece.{FrontPiece}
use Rattle.mg_read.specs.Pieces.{Table, Piece, spell, MayStand, Cut, Content, content_of, tokens_of, tokens_from, HasTokens, IsUncutAt}
use Rattle.mg_read.specs.Pieces.{IsBad, no_piece, ill_formed, IsBadAt}
use Rattle.mg_read.specs.inner.Fronts.{piece_at, kind_of, content_shown, first_of}
use Rattle.mg_read.proofs.Steps.{some_is, none_is_not}
use Rattle.mg_read.proofs.Fronts.{AreApart, Stands, piece_stands, piece_again, content_is, Front, text_is}

-- ---- bytes that are no UTF-8

-- UTF-8 has no first sequence that is none
pub utf8_whole : (bytes : List ℕ) (k : ℕ) → IsUtf8 bytes → IsValidUpTo bytes k → ⊥
utf8_whole bytes k h v = v.longest (length bytes) v.short (subst IsUtf8 (sym (take_all (length bytes) bytes (omega arith))) h)

-- there is one first
pub ill_once : (bytes : List ℕ) (k j : ℕ) → IsValidUpTo bytes k → IsValidUpTo bytes j → k ≡ j
ill_once bytes k j a b = sym (utf8_valid_len-IsValidUpTo bytes k a) ∙ utf8_valid_len-IsValidUpTo bytes j b

module _ (t : Table) (apart : AreApart t.signs) where
  -- ---- rows of pieces

  -- there is one way to cut
  pub cut_once : (ps qs : List Piece) (bytes rest more : List ℕ) → Cut t ps bytes rest → Cut t qs bytes more → piece_at t rest ≡ None →
      piece_at t more ≡ None → (ps ≡ qs) × (rest ≡ more)
  cut_once [] [] bytes rest more a b u v = (refl, sym a ∙ b)
  cut_once [] (q ∷ qs) bytes rest more a (after, parts, stands, h) u v =
      absurd (none_is_not (q, after) (sym u ∙ ap (piece_at t) (sym a ∙ parts) ∙ piece_again t apart q after stands))
  cut_once (p ∷ ps) [] bytes rest more (after, parts, stands, h) b u v =
      absurd (none_is_not (p, after) (sym v ∙ ap (piece_at t) (sym b ∙ parts) ∙ piece_again t apart p after stands))
  cut_once (p ∷ ps) (q ∷ qs) bytes rest more (a, a_parts, a_stands, a_more) (b, b_parts, b_stands, b_more) u v =
      let same = some_is (p, a) (q, b) (sym (piece_again t apart p a a_stands) ∙ ap (piece_at t) (sym a_parts ∙ b_parts) ∙
      piece_again t apart q b b_stands) in
      let head : p ≡ q = ap (λ (x : Piece × List ℕ). x.0) same in
      let tail : a ≡ b = ap (λ (x : Piece × List ℕ). x.1) same in
      let r = cut_once ps qs a rest more a_more (subst (λ (z : List ℕ). Cut t qs z more) (sym tail) b_more) u v in
      (let rest_is = r.0 in cc, r.1)

  -- where none is read, none stands
  none_stands : (rest : List ℕ) → piece_at t rest ≡ None → (p : Piece) (after : List ℕ) → rest ≡ spell p ++ after → MayStand t p after → ⊥
  none_stands rest e p after parts stands = none_is_not (p, after) (sym e ∙ ap (piece_at t) parts ∙ piece_again t apart p after stands)

  -- where none stands, none is read
  nothing_read : (rest : List ℕ) → ((p : Piece) (after : List ℕ) → rest ≡ spell p ++ after → MayStand t p after → ⊥) →
      piece_at t rest ≡ None
  nothing_read rest h = by_cases (piece_at t rest) refl where
    by_cases : (o : Option (Piece × List ℕ)) → piece_at t rest ≡ o → piece_at t rest ≡ None
    by_cases None e = e
    by_cases (Some x) e = let s = piece_stands t rest x e in absurd (h x.0 x.1 s.0 s.1)

  -- bytes that are cut whole are cut up to no bad byte
  whole_or_uncut : (ps : List Piece) (bytes : List ℕ) (k : ℕ) → Cut t ps bytes [] → IsUncutAt t bytes k → ⊥
  whole_or_uncut ps bytes k h u =
      let r = cut_once ps u.pieces bytes [] u.rest h u.cut refl (nothing_read u.rest u.uncut) in
      let e = ap length r.1 in
      omega (arith, e, u.long)

  -- and there is one offset at most where none stands
  uncut_once : (bytes : List ℕ) (k j : ℕ) → IsUncutAt t bytes k → IsUncutAt t bytes j → k ≡ j
  uncut_once bytes k j a b =
      let r = cut_once a.pieces b.pieces bytes a.rest b.rest a.cut b.cut (nothing_read a.rest a.uncut) (nothing_read b.rest b.uncut) in
      let e = ap length r.1 in
      omega (arith, e, a.here, b.here)

  -- ---- one answer

  -- there is one bad byte at most
  pub bad_once : (bytes : List ℕ) (k j : ℕ) → IsBadAt t bytes k → IsBadAt t bytes j → k ≡ j
  bad_once bytes k j a b = omega (arith, a.first j b.bad, b.first k a.bad)

  module _ {T : Type 0} (of : Place → Content → List T) where
    -- bytes have one row of tokens at most
    pub same_tokens : (file : ℕ) (ts us : List T) (bytes : List ℕ) → HasTokens t of file ts bytes → HasTokens t of file us bytes → ts ≡ us
    same_tokens file ts us bytes a b =
        a.tokens ∙ ap (tokens_from of (start_of file)) (cut_once a.pieces b.pieces bytes [] [] a.cut b.cut refl refl).0 ∙ sym b.tokens

    -- bytes with tokens have no bad byte
    pub tokens_or_bad : (file : ℕ) (ts : List T) (k : ℕ) (bytes : List ℕ) → HasTokens t of file ts bytes → IsBadAt t bytes k → ⊥
    tokens_or_bad file ts k bytes a b =
        elim (b.bad) [
          | no_piece u ↦ whole_or_uncut a.pieces bytes k a.cut u
          | ill_formed v ↦ utf8_whole bytes k a.utf8 v
        ]

    -- ---- a scan

    -- the place behind a row of pieces
    abbrev places_after : Place → List Piece → Place
    places_after place [] = place
    places_after place (p ∷ ps) = places_after (place_after place (spell p)) ps

    -- up to rest, which stands at an offset and a place, the bytes of a file are cut into pieces with these tokens
    pub record SoFar (file : ℕ) (bytes : List ℕ) (ts : List T) (place : Place) (offset : ℕ) (rest : List ℕ) : Type 0 where
      pub pieces : List Piece
      pub cut : Cut t pieces bytes rest
      pub tokens : ts ≡ tokens_from of (start_of file) pieces
      pub at : place ≡ places_after (start_of file) pieces
      pub here : offset + length rest ≡ length bytes

    -- a cut goes on with one more piece
    cut_more : (ps : List Piece) (p : Piece) (bytes rest after : List ℕ) → Cut t ps bytes rest → Stands t rest (p, after) →
        Cut t (ps ++ p ∷ []) bytes after
    cut_more [] p bytes rest after e (parts, stands) = (after, e ∙ parts, stands, refl)
    cut_more (q ∷ ps) p bytes rest after (mid, parts, stands, h) s = (mid, parts, stands, cut_more ps p mid rest after h s)

    -- the place behind one more piece
    places_more : (ps : List Piece) (p : Piece) (place : Place) → places_after place (ps ++ p ∷ []) ≡ place_after (places_after place ps)
        (spell p)
    places_more [] p place = refl
    places_more (q ∷ ps) p place = places_more ps p (place_after place (spell q))

    -- what a piece gives at a place
    abbrev given : Place → Piece → List T
    given place p = tokens_of of place (content_of p)

    -- the tokens of one more piece are added at the end
    tokens_more : (ps : List Piece) (p : Piece) (place : Place) → tokens_from of place (ps ++ p ∷ []) ≡ tokens_from of place ps
        ++ given (places_after place ps) p
    tokens_more [] p place = append-nil (given place p)
    tokens_more (q ∷ ps) p place =
        let next : Place = place_after place (spell q) in
        ap (λ (z : List T). given place q ++ z) (tokens_more ps p next) ∙
        sym (append_assoc (given place q) (tokens_from of next ps) (given (places_after next ps) p))

    -- the scan begins with no piece
    pub SoFar-init : (file : ℕ) (bytes : List ℕ) → SoFar file bytes [] (start_of file) 0 bytes
    SoFar-init file bytes = record { pieces = []; cut = refl; tokens = refl; at = refl; here = omega arith }

    -- the scan goes on with a piece that stands
    SoFar-more : (file : ℕ) (bytes : List ℕ) (ts : List T) (place : Place) (offset : ℕ) (rest : List ℕ) (p : Piece) (after : List ℕ) →
        Stands t rest (p, after) → SoFar file bytes ts place offset rest
        → SoFar file bytes (ts ++ given place p) (place_after place (spell p)) (offset + length (spell p)) after
    SoFar-more file bytes ts place offset rest p after s h =
        record {
          pieces = h.pieces ++ p ∷ [];
          cut = cut_more h.pieces p bytes rest after h.cut s;
          tokens = ap (λ (z : List T). z ++ given place p) h.tokens ∙ ap (λ (k : Place). tokens_from of (start_of file) h.pieces
              ++ given k p) h.at ∙ sym (tokens_more h.pieces p (start_of file));
          at = ap (λ (k : Place). place_after k (spell p)) h.at ∙ sym (places_more h.pieces p (start_of file));
          here = omega (arith, h.here, ap length s.0, length-append (spell p) after);
        }

    -- a turn of the loop keeps what is so far
    pub Front-more : (file : ℕ) (bytes : List ℕ) (ts : List T) (place : Place) (offset : ℕ) (rest : List ℕ) (shown : FrontPiece) →
        Front t shown rest → SoFar file bytes ts place offset rest
        → SoFar file bytes (ts ++ tokens_of of place (content_shown shown.kind (take shown.len rest)))
        (place_after place (take shown.len rest)) (offset + shown.len) (drop shown.len rest)
    Front-more file bytes ts place offset rest shown f h =
        let kind_is : shown.kind ≡ kind_of f.piece = ap (λ (s : FrontPiece). s.kind) f.shows in
        let len_is : shown.len ≡ length (spell f.piece) = ap (λ (s : FrontPiece). s.len) f.shows in
        let after_is : drop shown.len rest ≡ f.after =
        rw (len_is, f.stands.0) (drop_at (spell f.piece) f.after (length (spell f.piece)) refl) in
        rw (text_is t shown rest f, after_is, kind_is, len_is, content_is f.piece) (SoFar-more file bytes ts place offset rest f.piece
        f.after f.stands h)

    -- where nothing is left of what is UTF-8, the tokens are those of the bytes
    pub SoFar-done : (file : ℕ) (bytes : List ℕ) (ts : List T) (place : Place) (offset : ℕ) (rest : List ℕ) → IsUtf8 bytes → length rest ≡ 0
        → SoFar file bytes ts place offset rest → HasTokens t of file ts bytes
    SoFar-done file bytes ts place offset [] utf8 e h = record { pieces = h.pieces; cut = h.cut; utf8 = utf8; tokens = h.tokens }
    SoFar-done file bytes ts place offset (b ∷ rest) utf8 e h = absurd (omega arith)

    -- where nothing is left of what is no UTF-8, that is bad
    pub SoFar-ill : (file : ℕ) (bytes : List ℕ) (ts : List T) (place : Place) (offset : ℕ) (rest : List ℕ) (k : ℕ) → IsValidUpTo bytes k →
        length rest ≡ 0 → SoFar file bytes ts place offset rest → IsBadAt t bytes k
    SoFar-ill file bytes ts place offset (b ∷ rest) k v e h = absurd (omega arith)
    SoFar-ill file bytes ts place offset [] k v e h = record { bad = ill_formed v; first = first } where
      first : (j : ℕ) → IsBad t bytes j → k ≤ j
      first j (no_piece u) = absurd (whole_or_uncut h.pieces bytes j h.cut u)
      first j (ill_formed w) = omega (arith, ill_once bytes k j v w)

    -- where no piece is read, the first of the two offsets is bad
    pub SoFar-bad : (file : ℕ) (bytes : List ℕ) (ts : List T) (place : Place) (offset : ℕ) (rest : List ℕ) (ill : Option ℕ) →
        MatchOption ill (IsUtf8 bytes) (IsValidUpTo bytes)
        → 0 < length rest → piece_at t rest ≡ None → SoFar file bytes ts place offset rest → IsBadAt t bytes (first_of offset ill)
    SoFar-bad file bytes ts place offset rest ill v long e h = by_cases ill v where
      here : IsUncutAt t bytes offset
      here = record { pieces = h.pieces; rest = rest; cut = h.cut; long = long; here = h.here; uncut = none_stands rest e }

      by_cases : (ill : Option ℕ) → MatchOption ill (IsUtf8 bytes) (IsValidUpTo bytes) → IsBadAt t bytes (first_of offset ill)
      by_cases None v = record { bad = no_piece here; first = first } where
        first : (j : ℕ) → IsBad t bytes j → offset ≤ j
        first j (no_piece u) = omega (arith, uncut_once bytes offset j here u)
        first j (ill_formed w) = absurd (utf8_whole bytes j v w)
      by_cases (Some k) v = which (nat_lt k offset) refl where
        which : (b : Bool) → nat_lt k offset ≡ b → IsBadAt t bytes (min offset k)
        which true e =
            let below : k < offset = grind (arith, nat_tests) in
            let is : k ≡ min offset k = omega arith in
            subst (IsBadAt t bytes) is (record { bad = ill_formed v; first = first below }) where
              first : k < offset → (j : ℕ) → IsBad t bytes j → k ≤ j
              first below j (no_piece u) = omega (arith, uncut_once bytes offset j here u)
              first below j (ill_formed w) = omega (arith, ill_once bytes k j v w)
        which false e =
            let above : offset ≤ k = grind (arith, nat_tests) in
            let is : offset ≡ min offset k = omega arith in
            subst (IsBadAt t bytes) is (record { bad = no_piece here; first = first above }) where
              first : offset ≤ k → (j : ℕ) → IsBad t bytes j → offset ≤ j
              first above j (no_piece u) = omega (arith, uncut_once bytes offset j here u)
              first above j (ill_formed w) = omega (arith, ill_once bytes k j v w)

  module _ {T R : Type 0} (of : Place → Content → List T) (see : R → List T) where
    -- What separating answers where memory is enough: the tokens, or the bad byte.
    abbrev pub IsAnswer : ℕ → List ℕ → Result R LexFault → Type 0
    IsAnswer file bytes r = MatchLexed r (λ v. HasTokens t of file (see v) bytes) (λ k. IsBadAt t bytes k)

    -- the tokens that the bytes have are found, unless memory runs out
    pub only_tokens : (file : ℕ) (r : Result R LexFault) (bytes : List ℕ) → IsAnswer file bytes r → (ts : List T) →
        HasTokens t of file ts bytes → MatchLexed r (λ v. see v ≡ ts) (λ k. ⊥)
    only_tokens file (Ok v) bytes h ts a = same_tokens of file (see v) ts bytes h a
    only_tokens file (Err faults.Memory) bytes h ts a = tt
    only_tokens file (Err (faults.BadByte k)) bytes h ts a = tokens_or_bad of file ts k bytes a h

    -- the bad byte that there is is found, unless memory runs out
    pub only_bad : (file : ℕ) (r : Result R LexFault) (bytes : List ℕ) → IsAnswer file bytes r → (k : ℕ) → IsBadAt t bytes k →
        MatchLexed r (λ v. ⊥) (λ j. j ≡ k)
    only_bad file (Ok v) bytes h k b = tokens_or_bad of file (see v) k bytes h b
    only_bad file (Err faults.Memory) bytes h k b = tt
    only_bad file (Err (faults.BadByte j)) bytes h k b = bad_once bytes j k h b
