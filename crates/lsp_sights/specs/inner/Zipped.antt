-- Calls with the offsets of their places, one by one.
use Rattle.std.specs.Prelude.{ℕ, ◌+◌, List, [], ◌∷◌, Option, Some, None, drop}
use Rattle.use_sights.specs.declared.site.Site.{Site}
use Rattle.lsp_spans.specs.Words.{path_len}
use Rattle.lsp_sights.specs.declared.located.Located.{Located}

abbrev pub located_at : (text : List ℕ) → Site → (start : ℕ) → Located
located_at text s o = record { site = s; start = o; «end» = o + path_len (drop o text) }

abbrev pub zipped : (text : List ℕ) → List Site → (starts : List ℕ) → List Located
zipped text [] os = []
zipped text (s ∷ ss) [] = []
zipped text (s ∷ ss) (o ∷ os) = located_at text s o ∷ zipped text ss os

-- the first of some calls
abbrev pub first : List Located → Option Located
first [] = None
first (c ∷ cs) = Some c
