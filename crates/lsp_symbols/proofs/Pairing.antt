-- Things and their ranges, one by one.
use Rattle.std.proofs.Common.{◌≡◌, ℕ, suc, List, [], ◌∷◌, ◌++◌, length, map, refl, sym, ap, ◌∙◌, subst, arith}
use Rattle.mg_text.specs.Call.{Name}
use Rattle.mg_text.specs.declared.place.Place.{Place}
use Rattle.lsp_text.specs.declared.encoding.Encoding.{Encoding}
use Rattle.lsp_text.specs.declared.changes.Range.{Range}
use Rattle.lsp_messages.specs.declared.outgoing.Symbol.{Symbol}
use Rattle.lsp_spans.specs.Spans.{AreRangesOf}
use Rattle.lsp_symbols.specs.declared.things.Declared.{Declared}
use Rattle.lsp_symbols.specs.Symbols.{AreSymbolsOf}
use Rattle.lsp_symbols.specs.inner.Pairs.{place_of, symbol_of, symbols}

module _ (encoding : Encoding) (document : Name) (text : List ℕ) where
  -- as many ranges as things
  pub as_many : (ds : List Declared) (rs : List Range) → AreRangesOf encoding text (map place_of ds) rs → length ds ≡ length rs
  as_many [] [] h = refl
  as_many [] (r ∷ rs) h = absurd h
  as_many (d ∷ ds) [] h = absurd h
  as_many (d ∷ ds) (r ∷ rs) h = ap suc (as_many ds rs h.1)

  -- the symbols over the ranges are those of the things
  pub paired : (ds : List Declared) (rs : List Range) → AreRangesOf encoding text (map place_of ds) rs →
      AreSymbolsOf encoding document text ds (symbols document ds rs)
  paired [] [] h = tt
  paired [] (r ∷ rs) h = absurd h
  paired (d ∷ ds) [] h = absurd h
  paired (d ∷ ds) (r ∷ rs) h =
      (record { name = refl; kind = refl; within = refl; document_is = refl; range = h.0 }, paired ds rs h.1)

  -- The same of equal lists, as the steps of the code name them.
  module _ (ds : List Declared) (places p1 : List Place) (ranges r2 : List Range) (e1 : p1 ≡ places) (made : places ≡ map place_of ds)
      (e2 : r2 ≡ ranges) (are : AreRangesOf encoding text p1 ranges) where
    are_all : AreRangesOf encoding text (map place_of ds) r2
    are_all = subst (λ (rs : List Range). AreRangesOf encoding text (map place_of ds) rs) (sym e2)
        (subst (λ (ps : List Place). AreRangesOf encoding text ps ranges) (e1 ∙ made) are)

    pub same_count : length ds ≡ length r2
    same_count = as_many ds r2 are_all

    pub all_paired : (ss : List Symbol) → ss ≡ symbols document ds r2 → AreSymbolsOf encoding document text ds ss
    all_paired ss is = subst (λ (xs : List Symbol). AreSymbolsOf encoding document text ds xs) (sym is) (paired ds r2 are_all)

-- one symbol more
pub symbols_more : (document : Name) (ds : List Declared) (rs : List Range) (d : Declared) (r : Range) → length ds ≡ length rs →
    symbols document (ds ++ d ∷ []) (rs ++ r ∷ []) ≡ symbols document ds rs ++ symbol_of document d r ∷ []
symbols_more document [] [] d r same = refl
symbols_more document [] (x ∷ rs) d r same = absurd (omega (arith, same))
symbols_more document (y ∷ ds) [] d r same = absurd (omega (arith, same))
symbols_more document (y ∷ ds) (x ∷ rs) d r same =
    let less : length ds ≡ length rs = omega (arith, same) in
    ap (λ (ss : List Symbol). symbol_of document y x ∷ ss) (symbols_more document ds rs d r less)
