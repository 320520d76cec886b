-- The lines that are said of words, refusals, files and memory.
use Rattle.std.specs.Prelude.{ℕ, List, [], ◌∷◌, ◌++◌, Option, Some, None, codes, slice_get}
use Rattle.std.specs.Fmt.{decimal}
use Rattle.std.specs.List.{flat_map}
use Rattle.mg_text.specs.Call.{Name}
use Rattle.mg_refusal.specs.Refusals.{Refusal}
use Rattle.mg_refusal.specs.declared.refusal.Spot.{Spot}
use Rattle.mg_refusal.specs.declared.refusal.Spot.TheVariants as spots

abbrev pub ended : List ℕ → List ℕ
ended line = line ++ 10 ∷ []

-- behind the words stand a blank and the first that can't follow, if there is one
abbrev pub wrong_word : Option (List ℕ) → List ℕ
wrong_word (Some word) = codes " " ++ word
wrong_word None = []

abbrev pub words_line : Option (List ℕ) → List ℕ
words_line word = ended (codes "mungo: words" ++ wrong_word word)

-- the name of the file of a number
abbrev pub name_at : List Name → ℕ → Name
name_at names file = elim (slice_get names file) [ None ↦ [] | Some name ↦ name ]

-- where a refusal of the files of these names stands: a file with line and column, or with an offset; else the program itself
abbrev pub spot_text : List Name → Spot → List ℕ
spot_text names spots.Nowhere = codes "mungo"
spot_text names (spots.Text place) = name_at names place.file ++ codes ":" ++ decimal place.line ++ codes ":" ++ decimal place.column
spot_text names (spots.Bytes file offset) = name_at names file ++ codes ":" ++ decimal offset

-- behind a refusal stand a blank and what is named, if anything is
abbrev pub named_text : Option Name → List ℕ
named_text (Some name) = codes " " ++ name
named_text None = []

abbrev pub refusal_line : List Name → Refusal → List ℕ
refusal_line names r = ended (spot_text names r.spot ++ codes ": " ++ r.kind ++ named_text r.name)

-- several refusals, each in its line
abbrev pub refusal_lines : List Name → List Refusal → List ℕ
refusal_lines names rs = flat_map (refusal_line names) rs

abbrev pub read_line : Name → List ℕ
read_line file = ended (codes "mungo: read " ++ file)

abbrev pub write_line : Name → List ℕ
write_line file = ended (codes "mungo: write " ++ file)

abbrev pub memory_line : List ℕ
memory_line = ended (codes "mungo: memory")

-- the first call that a protocol doesn't offer, by its line
abbrev pub not_offered_line : ℕ → List ℕ
not_offered_line line = ended (codes "line " ++ decimal line ++ codes ": not offered")
