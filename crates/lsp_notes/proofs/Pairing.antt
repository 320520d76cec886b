-- Refusals and their ranges, one by one.
use Rattle.std.proofs.Common.{◌≡◌, ℕ, suc, ◌+◌, ◌<◌, List, [], ◌∷◌, ◌++◌, length, map, take, get_or, refl, sym, ap, ap₂, ◌∙◌, arith, subst}
use Rattle.std.proofs.Common.{length-take-le}
use Rattle.std.proofs.Math.ListN.{length-map}
use Rattle.std.proofs.lemmas.List.{take_more}
use Rattle.mg_text.specs.declared.place.Place.{Place}
use Rattle.mg_refusal.specs.Refusals.{Refusal}
use Rattle.lsp_text.specs.declared.encoding.Encoding.{Encoding}
use Rattle.lsp_text.specs.declared.changes.Range.{Range}
use Rattle.lsp_messages.specs.declared.outgoing.Diagnostic.{Diagnostic}
use Rattle.lsp_spans.specs.Spans.{AreRangesOf}
use Rattle.lsp_notes.specs.Homes.{place_in}
use Rattle.lsp_notes.specs.Told.{AreDiagnostics}
use Rattle.lsp_notes.specs.inner.Pairs.{diagnostic_of, diagnostics}

-- one pair more
pairs_more : (rs : List Refusal) (ranges : List Range) (r : Refusal) (range : Range) → length rs ≡ length ranges →
    diagnostics (rs ++ r ∷ []) (ranges ++ range ∷ []) ≡ diagnostics rs ranges ++ diagnostic_of r range ∷ []
pairs_more [] [] r range same = refl
pairs_more [] (x ∷ xs) r range same = absurd (omega (arith, same))
pairs_more (q ∷ rs) [] r range same = absurd (omega (arith, same))
pairs_more (q ∷ rs) (x ∷ xs) r range same =
    let less : length rs ≡ length xs = omega (arith, same) in
    ap (λ (ds : List Diagnostic). diagnostic_of q x ∷ ds) (pairs_more rs xs r range less)

-- the next pair
pub next_pair : (rs : List Refusal) (ranges : List Range) (i : ℕ) (r : Refusal) (range : Range) (ds more : List Diagnostic) →
    length rs ≡ length ranges → i < length rs → r ≡ get_or rs i r → range ≡ get_or ranges i range →
    ds ≡ diagnostics (take i rs) (take i ranges) → more ≡ ds ++ diagnostic_of r range ∷ [] →
    more ≡ diagnostics (take (i + 1) rs) (take (i + 1) ranges)
next_pair rs ranges i r range ds more same lt at also e h =
    let low : i < length ranges = omega (arith, same, lt) in
    let long : length (take i rs) ≡ length (take i ranges) =
    length-take-le i rs (omega (arith, lt)) ∙ sym (length-take-le i ranges (omega (arith, low))) in
    h ∙ ap (λ (xs : List Diagnostic). xs ++ diagnostic_of r range ∷ []) e
    ∙ sym (pairs_more (take i rs) (take i ranges) r range long)
    ∙ sym (ap₂ diagnostics (take_more rs i r lt ∙ ap (λ (x : Refusal). take i rs ++ x ∷ []) (sym at))
    (take_more ranges i range low ∙ ap (λ (x : Range). take i ranges ++ x ∷ []) (sym also)))

module _ (encoding : Encoding) (text : List ℕ) (count : ℕ) where
  ranges_many : (places : List Place) (ranges : List Range) → AreRangesOf encoding text places ranges → length places ≡ length ranges
  ranges_many [] [] h = refl
  ranges_many [] (r ∷ rs) h = absurd h
  ranges_many (p ∷ ps) [] h = absurd h
  ranges_many (p ∷ ps) (r ∷ rs) h = ap suc (ranges_many ps rs h.1)

  -- a range for each refusal
  pub as_many : (rs : List Refusal) (places p2 : List Place) (ranges r2 : List Range) → places ≡ map (place_in count) rs → p2 ≡ places →
      r2 ≡ ranges → AreRangesOf encoding text p2 ranges → length rs ≡ length r2
  as_many rs places p2 ranges r2 is e f h =
      sym (length-map rs (place_in count)) ∙ sym (ap (λ (ps : List Place). length ps) (e ∙ is)) ∙ ranges_many p2 ranges h
      ∙ sym (ap (λ (xs : List Range). length xs) f)

  paired : (rs : List Refusal) (ranges : List Range) → AreRangesOf encoding text (map (place_in count) rs) ranges →
      AreDiagnostics encoding count text rs (diagnostics rs ranges)
  paired [] [] h = tt
  paired [] (x ∷ ranges) h = absurd h
  paired (r ∷ rs) [] h = absurd h
  paired (r ∷ rs) (x ∷ ranges) h = (record { code = refl; message = refl; range = h.0 }, paired rs ranges h.1)

  -- the pairs are the diagnostics
  pub all_paired : (rs : List Refusal) (places p2 : List Place) (ranges r2 : List Range) (ds : List Diagnostic) →
      places ≡ map (place_in count) rs → p2 ≡ places → r2 ≡ ranges → AreRangesOf encoding text p2 ranges → ds ≡ diagnostics rs r2 →
      AreDiagnostics encoding count text rs ds
  all_paired rs places p2 ranges r2 ds is e f h d =
      subst (AreDiagnostics encoding count text rs) (sym (d ∙ ap (diagnostics rs) f))
      (paired rs ranges (subst (λ (ps : List Place). AreRangesOf encoding text ps ranges) (e ∙ is) h))
