-- Calls and where their paths stand, one by one.
use Rattle.std.proofs.Common.{◌≡◌, ℕ, suc, ◌≤◌, List, [], ◌∷◌, ◌++◌, length, map, refl, sym, ap, ◌∙◌, subst, arith}
use Rattle.std.specs.Prelude.{All}
use Rattle.std.proofs.Math.ListN.{length-map}
use Rattle.std.proofs.lemmas.List.Elements.{All-nil, All-cons}
use Rattle.mg_text.specs.declared.place.Place.{Place}
use Rattle.use_sights.specs.declared.site.Site.{Site}
use Rattle.lsp_text.specs.Places.{AreOffsetsOf}
use Rattle.lsp_sights.specs.declared.located.Located.{Located}
use Rattle.lsp_sights.specs.Located.{AreLocated}
use Rattle.lsp_sights.specs.inner.Zipped.{located_at, zipped}

abbrev pub place_of : Site → Place
place_of s = s.place

module _ (text : List ℕ) where
  -- one pair more
  pub zipped_more : (ss : List Site) (os : List ℕ) (s : Site) (o : ℕ) → length ss ≡ length os →
      zipped text (ss ++ s ∷ []) (os ++ o ∷ []) ≡ zipped text ss os ++ located_at text s o ∷ []
  zipped_more [] [] s o same = refl
  zipped_more [] (x ∷ os) s o same = absurd (omega (arith, same))
  zipped_more (r ∷ ss) [] s o same = absurd (omega (arith, same))
  zipped_more (r ∷ ss) (x ∷ os) s o same =
      let less : length ss ≡ length os = omega (arith, same) in
      ap (λ (xs : List Located). located_at text r x ∷ xs) (zipped_more ss os s o less)

  abbrev pub IsWithin : ℕ → Type 0
  IsWithin o = o ≤ length text

  -- offsets of places stand in the text
  pub offsets_within : (places : List Place) (os : List ℕ) → AreOffsetsOf text places os → All IsWithin os
  offsets_within [] [] h = All-nil IsWithin
  offsets_within [] (o ∷ os) h = absurd h
  offsets_within (p ∷ ps) [] h = absurd h
  offsets_within (p ∷ ps) (o ∷ os) h = All-cons IsWithin o os h.0.within (offsets_within ps os h.1)

  -- one for each place
  pub as_many : (places : List Place) (os : List ℕ) → AreOffsetsOf text places os → length places ≡ length os
  as_many [] [] h = refl
  as_many [] (o ∷ os) h = absurd h
  as_many (p ∷ ps) [] h = absurd h
  as_many (p ∷ ps) (o ∷ os) h = ap suc (as_many ps os h.1)

  pub all_located : (ss : List Site) (os : List ℕ) → AreOffsetsOf text (map place_of ss) os → AreLocated text ss (zipped text ss os)
  all_located [] [] h = tt
  all_located [] (o ∷ os) h = absurd h
  all_located (s ∷ ss) [] h = absurd h
  all_located (s ∷ ss) (o ∷ os) h = (record { site = refl; begins = h.0; ends = refl }, all_located ss os h.1)

-- The same of equal lists, as the steps of the code name them.
module _ (text bytes : List ℕ) (sites : List Site) (places ps : List Place) (starts os : List ℕ) (read : bytes ≡ text)
    (placed : places ≡ map place_of sites) (same_places : ps ≡ places) (same_starts : os ≡ starts) (stand : AreOffsetsOf text ps starts)
  where
    offsets : AreOffsetsOf text (map place_of sites) os
    offsets = subst (λ (xs : List ℕ). AreOffsetsOf text (map place_of sites) xs) (sym same_starts)
        (subst (λ (xs : List Place). AreOffsetsOf text xs starts) (same_places ∙ placed) stand)

    pub one_length : length sites ≡ length os
    one_length = sym (length-map sites place_of) ∙ as_many text (map place_of sites) os offsets

    pub within : All (λ (o : ℕ). o ≤ length bytes) os
    within = subst (λ (bs : List ℕ). All (λ (o : ℕ). o ≤ length bs) os) (sym read) (offsets_within text (map place_of sites) os offsets)

    pub are_located : (calls : List Located) → calls ≡ zipped bytes sites os → AreLocated text sites calls
    are_located calls is = subst (AreLocated text sites) (sym (is ∙ ap (λ (bs : List ℕ). zipped bs sites os) read))
        (all_located text sites os offsets)
