-- Documents of a folder that show something, by a test of names.
use Rattle.std.specs.Prelude.{ℕ, ◌&&◌, not, Bool, List, filter}
use Rattle.lsp_folder.specs.Names.{is_part}

abbrev pub left_by : (has : List ℕ → Bool) → (document : List ℕ) → List (List ℕ) → List (List ℕ)
left_by has document shown = filter (λ name. is_part document name && not (has name)) shown
