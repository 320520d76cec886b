-- Refusals by the files in which they are told.
use Rattle.std.specs.Prelude.{ℕ, zero, suc, List, [], ◌∷◌, ◌++◌, slice_index_or, slice_set}
use Rattle.mg_refusal.specs.Refusals.{Refusal}
use Rattle.lsp_notes.specs.Homes.{told_in}

-- one refusal more in the group of a number
abbrev pub with_refusal : (number : ℕ) → Refusal → List (List Refusal) → List (List Refusal)
with_refusal n r groups = slice_set groups n (slice_index_or groups n [] ++ r ∷ [])

-- what is told in each of so many files, from a number on
abbrev pub groups_from : (count file left : ℕ) → List Refusal → List (List Refusal)
groups_from count file zero rs = []
groups_from count file (suc left) rs = told_in count file rs ∷ groups_from count (suc file) left rs

-- what is told in each file
abbrev pub groups_of : (count : ℕ) → List Refusal → List (List Refusal)
groups_of count rs = groups_from count 0 count rs
