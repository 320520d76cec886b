-- The file of a number, by its name and its bytes.
use Rattle.std.proofs.Common.{◌≡◌, ℕ, ◌<◌, ◌≤◌, List, length, get_or, Some, None, slice_get, refl, arith}
use Rattle.std.proofs.lemmas.Option.{slice_get_past, slice_get_read}
use Rattle.mg_sources.specs.Files.{source_of, sources}
use Rattle.mg_sources.proofs.PartLemmas.{source_is, source_within, sources_named}

module _ (names contents : List (List ℕ)) (i : ℕ) where
  pub none_named : length names ≤ i → slice_get (sources names contents) i ≡ None
  none_named long =
      let short : length (sources names contents) ≤ length names = sources_named 0 names contents in
      slice_get_past (sources names contents) i (omega (arith, long, short))

  pub source_there : length names ≡ length contents → (name item bytes : List ℕ) → i < length contents → name ≡ get_or names i name →
      item ≡ get_or contents i item → bytes ≡ item → slice_get (sources names contents) i ≡ Some (source_of i name bytes)
  source_there same name item bytes within named held is =
      slice_get_read (sources names contents) (length (sources names contents)) i (source_of i name bytes) refl
      (source_within names contents i same within) (source_is names contents i name item bytes same within named held is)
