-- Names of documents: which are in one folder, and which name sources.
use Rattle.std.specs.Prelude.{ℕ, ◌==◌, ◌&&◌, ◌||◌, not, nat_eq, Bool, false, List, [], ◌∷◌, length, Some, None, slice_get, codes}
use Rattle.std.specs.Prelude.{if◌then◌else◌}
use Rattle.std.specs.List.{list_any, ends_with}
use Rattle.std.specs.Option.{unwrap_or}
use Rattle.std.specs.Str.{bytes_eq}
use Rattle.percent_encoding.specs.Percent.{percent_decode}
use Rattle.lsp_names.specs.Names.{file_path}

-- a slash parts a folder from what is in it
abbrev pub is_slash : ℕ → Bool
is_slash b = b == 47

-- the folder of a name: up to its last slash, and with it
abbrev pub folder_of : List ℕ → List ℕ
folder_of [] = []
folder_of (b ∷ bs) = if list_any is_slash (b ∷ bs) then b ∷ folder_of bs else []

-- the name of a local protocol, of typestates, or of classes and enums
abbrev pub is_source : List ℕ → Bool
is_source name =
    ends_with nat_eq name (codes ".scr") || (ends_with nat_eq name (codes ".protocol") || ends_with nat_eq name (codes ".java"))

-- within its folder the name begins with a dot, as the names of files that editors keep beside a file do
abbrev pub is_hidden : List ℕ → Bool
is_hidden name = elim (slice_get name (length (folder_of name))) [ None ↦ false | Some b ↦ b == 46 ]

-- What a name reads as: the path of a file of this machine, and each other name itself. Its escapes are read.
abbrev pub plain : List ℕ → List ℕ
plain name = percent_decode (unwrap_or (file_path name) name)

-- the name is that of a source in the folder of the document, however the folder is written
abbrev pub is_part : (document name : List ℕ) → Bool
is_part document name = bytes_eq (plain (folder_of name)) (plain (folder_of document)) && (not (is_hidden name) && is_source name)
