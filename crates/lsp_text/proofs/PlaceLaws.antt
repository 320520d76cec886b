-- The places of a text: what characters stand before one in its line, and which place is the last within a limit.
use Rattle.std.proofs.Common.{◌≡◌, ℕ, zero, suc, ◌+◌, ◌-◌, ◌<◌, ◌≤◌, List, [], ◌∷◌, ◌++◌, length, get_or, take, drop, Bool, true}
use Rattle.std.proofs.Common.{false, refl, sym, ap, ◌∙◌, subst, arith}
use Rattle.std.proofs.Common.{length-append, append_assoc}
use Rattle.std.specs.Prelude.{◌⊎◌, nat_lt}
use Rattle.std.specs.Str.{NonePass, IsUtf8, IsCharBoundary, chars}
use Rattle.std.proofs.Common.{inl, inr}
use Rattle.std.proofs.Math.Utf8.{encode, encodes}
use Rattle.std.proofs.lemmas.Str.{length-encode, len_utf8_bounds, encode_same, encodes-append, encodes-chars, IsUtf8-past_char, IsCharBoundary-at_seam}
use Rattle.std.proofs.lemmas.List.{take_more}
use Rattle.std.proofs.lemmas.Bool.Decides.{nat_tests}
use Rattle.lsp_text.specs.declared.encoding.Encoding.{Encoding}
use Rattle.lsp_text.specs.declared.encoding.Encoding.TheVariants.{Utf8}
use Rattle.lsp_text.specs.declared.positions.Position.{Position}
use Rattle.lsp_text.specs.Units.{units}
use Rattle.lsp_text.specs.inner.Fitting.{fitting}
use Rattle.lsp_text.specs.Lines.{is_line_end, spell, IsFirstLine, IsBehind, StopsLine, IsLineOf}
use Rattle.lsp_text.specs.Positions.{Stands, Means, IsPositionOf, ArePositionsOf}
use Rattle.lsp_text.proofs.ColumnLaws.{utf8_units, fitting_front, fitting_within, fitting_last}
use Rattle.lsp_text.proofs.LineLaws.{none_append, behind_same, behind_shorter, behind_further, end_stops, end_long}

-- a character has a first byte
first_byte : (c : ℕ) → (b : ℕ) × (bs : List ℕ) × (encode c ≡ b ∷ bs)
first_byte c = go (encode c) (let l = length-encode c in let h = len_utf8_bounds c in omega arith) refl where
  go : (xs : List ℕ) → 0 < length xs → encode c ≡ xs → (b : ℕ) × (bs : List ℕ) × (encode c ≡ b ∷ bs)
  go [] h e = absurd (omega arith)
  go (b ∷ bs) h e = (b, bs, e)

apart : {A : Type 0} (b : Bool) → b ≡ true → b ≡ false → A
apart b h k = absurd (cc)

-- what doesn't begin with an end's byte doesn't stand where a line stops
goes_on : {A : Type 0} (c : ℕ) (xs more : List ℕ) → NonePass is_line_end (encode c ++ xs) → StopsLine more → (ys : List ℕ) →
    encode c ++ ys ≡ more → A
goes_on c xs more plain stops ys h =
    let f = first_byte c in
    let head : NonePass is_line_end (f.0 ∷ (f.1 ++ xs)) = subst (λ (z : List ℕ). NonePass is_line_end (z ++ xs)) f.2 plain in
    let here : StopsLine (f.0 ∷ (f.1 ++ ys)) = subst (λ (z : List ℕ). StopsLine (z ++ ys)) f.2 (subst StopsLine (sym h) stops) in
    apart (is_line_end f.0) here head.0

-- characters that end no line begin the line
pub within_line : (bs cs behind more : List ℕ) → encodes bs ++ behind ≡ encodes cs ++ more → NonePass is_line_end (encodes bs) →
    StopsLine more → (ds : List ℕ) × (cs ≡ bs ++ ds) × (behind ≡ encodes ds ++ more)
within_line [] cs behind more h plain stops = (cs, refl, h)
within_line (b ∷ bs) [] behind more h plain stops =
    goes_on b (encodes bs) more plain stops (encodes bs ++ behind) (sym (append_assoc (encode b) (encodes bs) behind) ∙ h)
within_line (b ∷ bs) (c ∷ cs) behind more h plain stops =
    let one = encode_same b c (encodes bs ++ behind) (encodes cs ++ more)
    (sym (append_assoc (encode b) (encodes bs) behind) ∙ h ∙ append_assoc (encode c) (encodes cs) more) in
    let rest = within_line bs cs behind more one.1 (none_append is_line_end (encode b) (encodes bs) plain).1 stops in
    (rest.0, ap (λ z. z ∷ cs) (sym one.0) ∙ ap (λ (zs : List ℕ). b ∷ zs) rest.1, rest.2)

-- behind text that is UTF-8 the rest is
pub utf8_behind : (cs behind : List ℕ) → IsUtf8 (encodes cs ++ behind) → IsUtf8 behind
utf8_behind [] behind h = h
utf8_behind (c ∷ cs) behind h =
    utf8_behind cs behind
    (IsUtf8-past_char ((encode c ++ encodes cs) ++ behind) (encodes cs ++ behind) c h (append_assoc (encode c) (encodes cs) behind))

-- the text ends with what stands behind its lines
pub front_of : (n : ℕ) (text rest : List ℕ) → IsBehind n text rest → (front : List ℕ) × (text ≡ front ++ rest)
front_of zero text rest h = ([], h)
front_of (suc n) text rest h =
    let f = front_of n h.1 rest h.3 in
    let first = h.2 in (
      h.0 ++ (spell first.ending ++ f.0),
      first.spells ∙ ap (λ (z : List ℕ). h.0 ++ (spell first.ending ++ z)) f.1
          ∙ ap (λ (z : List ℕ). h.0 ++ z) (sym (append_assoc (spell first.ending) f.0 rest))
          ∙ sym (append_assoc h.0 (spell first.ending ++ f.0) rest),
    )

-- the characters of the line that are within a limit, and the place behind them
module _ (encoding limits : Encoding) (limit n : ℕ) (text rest line : List ℕ) (behind : IsBehind n text rest) (is : IsLineOf rest line)
    (utf8 : IsUtf8 line) where
  abbrev found : List ℕ
  found = fitting limits limit (chars line)

  spelled : encodes (chars line) ++ is.more ≡ rest
  spelled = ap (λ (z : List ℕ). z ++ is.more) (encodes-chars line utf8) ∙ sym is.spells

  cut : (ds : List ℕ) × (chars line ≡ found ++ ds) × (rest ≡ encodes found ++ (encodes ds ++ is.more))
  cut =
      let f = fitting_front limits limit (chars line) in (
        f.0,
        f.1,
        sym spelled ∙ ap (λ (z : List ℕ). encodes z ++ is.more) f.1 ∙ ap (λ (z : List ℕ). z ++ is.more) (encodes-append found f.0)
            ∙ append_assoc (encodes found) (encodes f.0) is.more,
      )

  plain : NonePass is_line_end (encodes found)
  plain =
      let whole : encodes (chars line) ≡ encodes found ++ encodes cut.0 = ap encodes cut.1 ∙ encodes-append found cut.0 in
      (none_append is_line_end (encodes found) (encodes cut.0)
      (subst (NonePass is_line_end) (sym (encodes-chars line utf8) ∙ whole) is.plain)).0

  pub place_found : Stands encoding text n (units encoding found) ((length text - length rest) + units Utf8 found)
  place_found =
      let parts : length rest ≡ length (encodes found) + length (encodes cut.0 ++ is.more) =
      ap length cut.2 ∙ length-append (encodes found) (encodes cut.0 ++ is.more) in
      let short : length rest ≤ length text = behind_shorter n text rest behind in
      let count : units Utf8 found ≡ length (encodes found) = utf8_units found in
      record {
        rest = rest;
        before = found;
        behind = encodes cut.0 ++ is.more;
        lines = behind;
        cut = cut.2;
        plain = plain;
        counts = refl;
        here = omega arith;
      }

  -- any place of the line has a beginning of the line before it
  pub of_line : (e : Encoding) (c o : ℕ) (s : Stands e text n c o) → (ds : List ℕ) × (chars line ≡ s.before ++ ds)
  of_line e c o s =
      let same : rest ≡ s.rest = behind_same n text rest s.rest behind s.lines in
      let w = within_line s.before (chars line) s.behind is.more (sym s.cut ∙ sym same ∙ sym spelled) s.plain is.stops in
      (w.0, w.1)

  -- among the places of the line that are within the limit it is the last
  pub of_line_last : (c o : ℕ) (s : Stands limits text n c o) → c ≤ limit → c ≤ units limits found
  of_line_last c o s le =
      let d = of_line limits c o s in
      let low : units limits s.before ≤ limit = subst (λ (z : ℕ). z ≤ limit) s.counts le in
      let most : units limits s.before ≤ units limits (fitting limits limit (s.before ++ d.0)) = fitting_last limits limit s.before d.0 low in
      subst (λ (z : ℕ). z ≤ units limits found) (sym s.counts)
      (subst (λ (z : List ℕ). units limits s.before ≤ units limits (fitting limits limit z)) (sym d.1) most)

  pub found_boundary : IsUtf8 rest → IsCharBoundary text ((length text - length rest) + units Utf8 found)
  found_boundary part =
      let f = front_of n text rest behind in
      let whole : text ≡ (f.0 ++ encodes found) ++ (encodes cut.0 ++ is.more) =
      f.1 ∙ ap (λ (z : List ℕ). f.0 ++ z) cut.2 ∙ sym (append_assoc f.0 (encodes found) (encodes cut.0 ++ is.more)) in
      let after : IsUtf8 (encodes cut.0 ++ is.more) = utf8_behind found (encodes cut.0 ++ is.more) (subst IsUtf8 cut.2 part) in
      let text_long : length text ≡ length f.0 + length rest = ap length f.1 ∙ length-append f.0 rest in
      let seam_long : length (f.0 ++ encodes found) ≡ length f.0 + length (encodes found) = length-append f.0 (encodes found) in
      let count : units Utf8 found ≡ length (encodes found) = utf8_units found in
      let at : length (f.0 ++ encodes found) ≡ (length text - length rest) + units Utf8 found = omega arith in
      subst (IsCharBoundary text) at (IsCharBoundary-at_seam text (f.0 ++ encodes found) (encodes cut.0 ++ is.more) whole after)

-- the offset that a position means
pub means_found : (encoding : Encoding) (position : Position) (text rest line : List ℕ) (behind : IsBehind position.line text rest)
    (is : IsLineOf rest line) (utf8 : IsUtf8 line) →
    Means encoding text position ((length text - length rest) + units Utf8 (fitting encoding position.character (chars line)))
means_found encoding position text rest line behind is utf8 =
    inl (record {
      column = units encoding (fitting encoding position.character (chars line));
      stands = place_found encoding encoding position.character position.line text rest line behind is utf8;
      within = fitting_within encoding position.character (chars line);
      last = of_line_last encoding encoding position.character position.line text rest line behind is utf8;
    })

-- bytes that end no line are no more than the line has
plain_prefix : (xs ys l more : List ℕ) → xs ++ ys ≡ l ++ more → NonePass is_line_end xs → StopsLine more → length xs ≤ length l
plain_prefix [] ys l more h plain stops = omega arith
plain_prefix (x ∷ xs) ys [] more h plain stops = apart (is_line_end x) (subst StopsLine (sym h) stops) plain.0
plain_prefix (x ∷ xs) ys (z ∷ l) more h plain stops =
    let t : length xs ≤ length l = plain_prefix xs ys l more (ap (λ (zs : List ℕ). drop 1 zs) h) plain.1 stops in
    omega arith

-- a place of a line stands before the lines behind it
pub stands_before : (encoding : Encoding) (text : List ℕ) (l c o n : ℕ) (rest : List ℕ) → Stands encoding text l c o → IsBehind n text rest →
    l < n → o + length rest < length text
stands_before encoding text l c o n rest s behind less =
    let f = behind_further l n text s.rest rest less s.lines behind in
    let first = f.2 in
    let whole : encodes s.before ++ s.behind ≡ f.0 ++ (spell first.ending ++ f.1) = sym s.cut ∙ first.spells in
    let short : length (encodes s.before) ≤ length f.0 =
    plain_prefix (encodes s.before) s.behind f.0 (spell first.ending ++ f.1) whole s.plain (end_stops first.ending f.1) in
    let left : length (encodes s.before ++ s.behind) ≡ length (encodes s.before) + length s.behind = length-append (encodes s.before) s.behind in
    let right : length (f.0 ++ (spell first.ending ++ f.1)) ≡ length f.0 + length (spell first.ending ++ f.1) =
    length-append f.0 (spell first.ending ++ f.1) in
    let inner : length (spell first.ending ++ f.1) ≡ length (spell first.ending) + length f.1 = length-append (spell first.ending) f.1 in
    let long : 1 ≤ length (spell first.ending) = end_long first.ending in
    let same : length (encodes s.before ++ s.behind) ≡ length (f.0 ++ (spell first.ending ++ f.1)) = ap length whole in
    let others : length rest ≤ length f.1 = f.3 in
    let here : o + length s.behind ≡ length text = s.here in
    omega arith

-- a place of a line stands behind where the line begins
pub stands_from : (encoding : Encoding) (text : List ℕ) (n c o : ℕ) (rest : List ℕ) (s : Stands encoding text n c o) → IsBehind n text rest →
    o + length rest ≡ length text + length (encodes s.before)
stands_from encoding text n c o rest s behind =
    let same : length s.rest ≡ length rest = ap length (behind_same n text s.rest rest s.lines behind) in
    let parts : length s.rest ≡ length (encodes s.before) + length s.behind =
    ap length s.cut ∙ length-append (encodes s.before) s.behind in
    let here : o + length s.behind ≡ length text = s.here in
    omega arith

pub order : (a b : ℕ) → (a < b) ⊎ (b ≤ a)
order a b = go (nat_lt a b) refl where
  go : (t : Bool) → nat_lt a b ≡ t → (a < b) ⊎ (b ≤ a)
  go true h = inl (below a b h) where
    below : (a b : ℕ) → nat_lt a b ≡ true → a < b
    below a b h = grind (arith, nat_tests)
  go false h = inr (above a b h) where
    above : (a b : ℕ) → nat_lt a b ≡ false → b ≤ a
    above a b h = grind (arith, nat_tests)

-- the position of the last place that isn't behind an offset
module _ (encoding : Encoding) (offset n : ℕ) (text rest line : List ℕ) (behind : IsBehind n text rest) (is : IsLineOf rest line)
    (utf8 : IsUtf8 line) (reached : length text ≤ offset + length rest)
    (next : (l a : List ℕ) → IsFirstLine rest l a → offset + length a < length text) where
  abbrev before : List ℕ
  before = fitting Utf8 (offset - (length text - length rest)) (chars line)

  abbrev place : ℕ
  place = (length text - length rest) + units Utf8 before

  earlier : (l c o : ℕ) → Stands encoding text l c o → l < n → o ≤ place
  earlier l c o s less = let h : o + length rest < length text = stands_before encoding text l c o n rest s behind less in omega arith

  later : (l c o : ℕ) → Stands encoding text l c o → n < l → o ≤ offset → o ≤ place
  later l c o s more within =
      let f = behind_further n l text rest s.rest more behind s.lines in
      let far : offset + length f.1 < length text = next f.0 f.1 f.2 in
      let short : length s.rest ≤ length f.1 = f.3 in
      let parts : length s.rest ≡ length (encodes s.before) + length s.behind =
      ap length s.cut ∙ length-append (encodes s.before) s.behind in
      let here : o + length s.behind ≡ length text = s.here in
      absurd (omega arith)

  beside : (c o : ℕ) → Stands encoding text n c o → o ≤ offset → o ≤ place
  beside c o s within =
      let shorter : length rest ≤ length text = behind_shorter n text rest behind in
      let d = of_line encoding Utf8 (offset - (length text - length rest)) n text rest line behind is utf8 encoding c o s in
      let from : o + length rest ≡ length text + length (encodes s.before) = stands_from encoding text n c o rest s behind in
      let count : units Utf8 s.before ≡ length (encodes s.before) = utf8_units s.before in
      let low : units Utf8 s.before ≤ offset - (length text - length rest) = omega arith in
      let most : units Utf8 s.before ≤ units Utf8 (fitting Utf8 (offset - (length text - length rest)) (s.before ++ d.0)) =
      fitting_last Utf8 (offset - (length text - length rest)) s.before d.0 low in
      let most_here : units Utf8 s.before ≤ units Utf8 before =
      subst (λ (z : List ℕ). units Utf8 s.before ≤ units Utf8 (fitting Utf8 (offset - (length text - length rest)) z)) (sym d.1) most in
      omega arith

  last : (l c o : ℕ) → Stands encoding text l c o → o ≤ offset → o ≤ place
  last l c o s within = by (order l n) (order n l) where
    by : (l < n) ⊎ (n ≤ l) → (n < l) ⊎ (l ≤ n) → o ≤ place
    by (inl less) _ = earlier l c o s less
    by (inr _) (inl more) = later l c o s more within
    by (inr low) (inr high) =
        let same : l ≡ n = omega arith in
        beside c o (subst (λ (z : ℕ). Stands encoding text z c o) same s) within

  pub position_found : IsPositionOf encoding text offset (record { line = n; character = units encoding before })
  position_found =
      let low : units Utf8 before ≤ offset - (length text - length rest) =
      fitting_within Utf8 (offset - (length text - length rest)) (chars line) in
      record {
        place = place;
        stands = place_found encoding Utf8 (offset - (length text - length rest)) n text rest line behind is utf8;
        within = omega arith;
        last = last;
      }

-- the same, with the numbers that the code has
pub position_at : (encoding : Encoding) (offset n count : ℕ) (text rest line : List ℕ) (behind : IsBehind n text rest)
    (is : IsLineOf rest line) (utf8 : IsUtf8 line) (reached : length text ≤ offset + length rest)
    (next : (l a : List ℕ) → IsFirstLine rest l a → offset + length a < length text) →
    count ≡ units encoding (fitting Utf8 (offset - (length text - length rest)) (chars line)) →
    IsPositionOf encoding text offset (record { line = n; character = count })
position_at encoding offset n count text rest line behind is utf8 reached next same =
    subst (λ (z : ℕ). IsPositionOf encoding text offset (record { line = n; character = z })) (sym same)
    (position_found encoding offset n text rest line behind is utf8 reached next)

pub means_at : (encoding : Encoding) (position : Position) (count : ℕ) (text rest line : List ℕ) (behind : IsBehind position.line text rest)
    (is : IsLineOf rest line) (utf8 : IsUtf8 line) → count ≡ units Utf8 (fitting encoding position.character (chars line)) →
    Means encoding text position ((length text - length rest) + count)
means_at encoding position count text rest line behind is utf8 same =
    subst (λ (z : ℕ). Means encoding text position ((length text - length rest) + z)) (sym same)
    (means_found encoding position text rest line behind is utf8)

pub boundary_at : (encoding : Encoding) (limit n count : ℕ) (text rest line : List ℕ) (behind : IsBehind n text rest)
    (is : IsLineOf rest line) (utf8 : IsUtf8 line) → IsUtf8 rest → count ≡ units Utf8 (fitting encoding limit (chars line)) →
    IsCharBoundary text ((length text - length rest) + count)
boundary_at encoding limit n count text rest line behind is utf8 part same =
    subst (λ (z : ℕ). IsCharBoundary text ((length text - length rest) + z)) (sym same)
    (found_boundary encoding encoding limit n text rest line behind is utf8 part)

-- one position more
pub positions_push : (encoding : Encoding) (text os : List ℕ) (ps : List Position) (o : ℕ) (p : Position) →
    ArePositionsOf encoding text os ps → IsPositionOf encoding text o p → ArePositionsOf encoding text (os ++ o ∷ []) (ps ++ p ∷ [])
positions_push encoding text [] [] o p h one = (one, tt)
positions_push encoding text [] (q ∷ ps) o p h one = absurd h
positions_push encoding text (n ∷ os) [] o p h one = absurd h
positions_push encoding text (n ∷ os) (q ∷ ps) o p h one = (h.0, positions_push encoding text os ps o p h.1 one)

pub positions_more : (encoding : Encoding) (text os : List ℕ) (ps : List Position) (i : ℕ) (p : Position) → i < length os →
    ArePositionsOf encoding text (take i os) ps → IsPositionOf encoding text (get_or os i 0) p →
    ArePositionsOf encoding text (take (i + 1) os) (ps ++ p ∷ [])
positions_more encoding text os ps i p less h one =
    subst (λ (zs : List ℕ). ArePositionsOf encoding text zs (ps ++ p ∷ [])) (sym (take_more os i 0 less))
    (positions_push encoding text (take i os) ps (get_or os i 0) p h one)
