-- Ranges of a document, put together.
use Rattle.std.proofs.Common.{◌≡◌, ℕ, List, [], ◌∷◌, map, refl, sym, ap, ◌∙◌, subst}
use Rattle.std.specs.Str.{IsUtf8}
use Rattle.mg_text.specs.Call.{Name}
use Rattle.mg_text.specs.declared.place.Place.{Place}
use Rattle.lsp_text.specs.declared.encoding.Encoding.{Encoding}
use Rattle.lsp_text.specs.declared.changes.Range.{Range}
use Rattle.lsp_messages.specs.declared.outgoing.Location.{Location}
use Rattle.lsp_spans.specs.Spans.{AreRangesOf}
use Rattle.lsp_defined.specs.Locations.{AreLocationsOf, AreLocated, some, none}
use Rattle.lsp_defined.specs.inner.Located.{location}

module _ (encoding : Encoding) (document : Name) where
  all_located : (text : List ℕ) (places : List Place) (ranges : List Range) → AreRangesOf encoding text places ranges →
      AreLocationsOf encoding document text places (map (location document) ranges)
  all_located text [] [] h = tt
  all_located text [] (r ∷ rs) h = absurd h
  all_located text (p ∷ ps) [] h = absurd h
  all_located text (p ∷ ps) (r ∷ rs) h = (record { document_is = refl; range = h.0 }, all_located text ps rs h.1)

  pub are_located : (text : List ℕ) (places : List Place) (ranges slice : List Range) (locations : List Location) → slice ≡ ranges →
      AreRangesOf encoding text places ranges → locations ≡ map (location document) slice →
      AreLocationsOf encoding document text places locations
  are_located text places ranges slice locations same h is =
      subst (λ (ls : List Location). AreLocationsOf encoding document text places ls)
      (sym (is ∙ ap (λ (rs : List Range). map (location document) rs) same)) (all_located text places ranges h)

  pub text_located : (bytes text : List ℕ) (places : List Place) (locations : List Location) → text ≡ bytes → IsUtf8 bytes →
      AreLocationsOf encoding document text places locations → AreLocated encoding document bytes places locations
  text_located bytes text places locations e utf8 h =
      some utf8 (subst (λ (bs : List ℕ). AreLocationsOf encoding document bs places locations) e h)

  pub none_located : (bytes : List ℕ) (places : List Place) (locations : List Location) → locations ≡ [] → ¬ IsUtf8 bytes →
      AreLocated encoding document bytes places locations
  none_located bytes places locations e h =
      subst (λ (ls : List Location). AreLocated encoding document bytes places ls) (sym e) (none h)
