-- Ranges, one for each place.
use Rattle.std.proofs.Common.{◌≡◌, ℕ, suc, ◌+◌, ◌≤◌, List, [], ◌∷◌, ◌++◌, length, drop, map, refl, sym, ap, ◌∙◌, subst, arith}
use Rattle.std.specs.Prelude.{All}
use Rattle.std.proofs.Math.ListN.{length-map}
use Rattle.std.proofs.lemmas.List.Elements.{All-nil, All-cons}
use Rattle.mg_text.specs.declared.place.Place.{Place}
use Rattle.lsp_text.specs.declared.encoding.Encoding.{Encoding}
use Rattle.lsp_text.specs.declared.positions.Position.{Position}
use Rattle.lsp_text.specs.declared.changes.Range.{Range}
use Rattle.lsp_text.specs.Positions.{ArePositionsOf}
use Rattle.lsp_text.specs.Places.{AreOffsetsOf}
use Rattle.lsp_spans.specs.Words.{word_len}
use Rattle.lsp_spans.specs.Spans.{AreRangesOf}
use Rattle.lsp_spans.specs.inner.Pairs.{between, ranges}

-- one pair more
pub ranges_more : (ss es : List Position) (s e : Position) → length ss ≡ length es →
    ranges (ss ++ s ∷ []) (es ++ e ∷ []) ≡ ranges ss es ++ between s e ∷ []
ranges_more [] [] s e same = refl
ranges_more [] (f ∷ es) s e same = absurd (omega (arith, same))
ranges_more (r ∷ ss) [] s e same = absurd (omega (arith, same))
ranges_more (r ∷ ss) (f ∷ es) s e same =
    let less : length ss ≡ length es = omega (arith, same) in
    ap (λ (xs : List Range). between r f ∷ xs) (ranges_more ss es s e less)

module _ (text : List ℕ) where
  abbrev pub IsWithin : ℕ → Type 0
  IsWithin o = o ≤ length text

  -- offsets of places stand in the text
  pub offsets_within : (places : List Place) (os : List ℕ) → AreOffsetsOf text places os → All IsWithin os
  offsets_within [] [] h = All-nil IsWithin
  offsets_within [] (o ∷ os) h = absurd h
  offsets_within (p ∷ ps) [] h = absurd h
  offsets_within (p ∷ ps) (o ∷ os) h = All-cons IsWithin o os h.0.within (offsets_within ps os h.1)

  abbrev pub end_of : ℕ → ℕ
  end_of o = o + word_len (drop o text)

  module _ (encoding : Encoding) where
    pub as_many : (os : List ℕ) (ps : List Position) → ArePositionsOf encoding text os ps → length os ≡ length ps
    as_many [] [] h = refl
    as_many [] (p ∷ ps) h = absurd h
    as_many (o ∷ os) [] h = absurd h
    as_many (o ∷ os) (p ∷ ps) h = ap suc (as_many os ps h.1)

    pub joined : (places : List Place) (os : List ℕ) (ss es : List Position) → AreOffsetsOf text places os →
        ArePositionsOf encoding text os ss → ArePositionsOf encoding text (map end_of os) es → AreRangesOf encoding text places (ranges ss es)
    joined [] [] [] es h s e = tt
    joined [] [] (x ∷ ss) es h s e = absurd s
    joined [] (o ∷ os) ss es h s e = absurd h
    joined (p ∷ ps) [] ss es h s e = absurd h
    joined (p ∷ ps) (o ∷ os) [] es h s e = absurd s
    joined (p ∷ ps) (o ∷ os) (x ∷ ss) [] h s e = absurd e
    joined (p ∷ ps) (o ∷ os) (x ∷ ss) (y ∷ es) h s e =
        (record { offset = o; stands = h.0; begins = s.0; ends = e.0 }, joined ps os ss es h.1 s.1 e.1)

-- The same of equal lists, as the steps of the code name them.
module _ (text bytes : List ℕ) (encoding : Encoding) (starts s1 s2 ends s3 : List ℕ) (begins b4 behind b5 : List Position)
    (read : bytes ≡ text) (e1 : s1 ≡ starts) (e2 : s2 ≡ starts) (e3 : s3 ≡ ends) (e4 : b4 ≡ begins) (e5 : b5 ≡ behind)
    (ended : ends ≡ map (λ (o : ℕ). o + word_len (drop o bytes)) s1) (first : ArePositionsOf encoding text s2 begins)
    (last : ArePositionsOf encoding text s3 behind) where
  ends_are : s3 ≡ map (end_of text) starts
  ends_are = e3 ∙ ended ∙ ap (λ (bs : List ℕ). map (λ (o : ℕ). o + word_len (drop o bs)) s1) read
      ∙ ap (λ (os : List ℕ). map (end_of text) os) e1

  first_are : ArePositionsOf encoding text starts b4
  first_are = subst (λ (os : List ℕ). ArePositionsOf encoding text os b4) e2
      (subst (λ (ps : List Position). ArePositionsOf encoding text s2 ps) (sym e4) first)

  last_are : ArePositionsOf encoding text (map (end_of text) starts) b5
  last_are = subst (λ (os : List ℕ). ArePositionsOf encoding text os b5) ends_are
      (subst (λ (ps : List Position). ArePositionsOf encoding text s3 ps) (sym e5) last)

  pub one_length : length b4 ≡ length b5
  one_length = sym (as_many text encoding starts b4 first_are) ∙ sym (length-map starts (end_of text))
      ∙ as_many text encoding (map (end_of text) starts) b5 last_are

  pub all_joined : (places : List Place) (rs : List Range) → AreOffsetsOf text places starts → rs ≡ ranges b4 b5 →
      AreRangesOf encoding text places rs
  all_joined places rs offsets is = subst (AreRangesOf encoding text places) (sym is)
      (joined text encoding places starts b4 b5 offsets first_are last_are)
