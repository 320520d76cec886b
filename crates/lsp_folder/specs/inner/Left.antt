-- Files of a folder that aren't open, by a test of names.
use Rattle.std.specs.Prelude.{ℕ, ◌&&◌, not, Bool, List, map, filter}
use Rattle.lsp_folder.specs.declared.program.File.{File}
use Rattle.lsp_folder.specs.declared.program.Member.{Member}
use Rattle.lsp_folder.specs.Names.{is_part, plain}
use Rattle.lsp_folder.specs.Programs.{read_member}

abbrev pub is_left : (has : List ℕ → Bool) → (document : List ℕ) → File → Bool
is_left has document f = is_part document f.name && not (has (plain f.name))

abbrev pub left_among : (has : List ℕ → Bool) → (document : List ℕ) → List File → List Member
left_among has document files = map read_member (filter (is_left has document) files)
