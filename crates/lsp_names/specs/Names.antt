-- What names of documents say of files, and how files of a folder are named.
use Rattle.std.specs.Prelude.{◌≡◌, ℕ, List, [], ◌∷◌, Bool, true, false, ◌==◌, ◌||◌, nat_eq, codes, drop}
use Rattle.std.specs.Prelude.{Option, None, Some, if◌then◌else◌}
use Rattle.std.specs.List.{starts_with, flat_map}
use Rattle.std.specs.Str.{IsUtf8}
use Rattle.std.specs.Char.{is_ascii_alphanumeric}
use Rattle.percent_encoding.specs.Percent.{percent_encode_byte, percent_decode}
use Rattle.lsp_names.specs.declared.naming.Named.{Named}
use Rattle.lsp_names.specs.declared.naming.Named.TheVariants.{Path, NoFile, Elsewhere, NoText}

-- whether the name has the scheme of files, and what stands behind it
abbrev pub is_file : List ℕ → Bool
is_file name = starts_with nat_eq name (codes "file:")

abbrev pub behind_scheme : List ℕ → List ℕ
behind_scheme name = drop 5 name

-- the path that stands there from the root on
abbrev pub rooted : List ℕ → Option (List ℕ)
rooted path = if starts_with nat_eq path (codes "/") then Some path else None

-- the path behind the name of a machine, where it is this one: nothing, or `localhost`
abbrev pub on_this_machine : List ℕ → Option (List ℕ)
on_this_machine rest = rooted (if starts_with nat_eq rest (codes "localhost/") then drop 9 rest else rest)

-- the path behind the scheme, as it is escaped; two slashes stand in front of the name of a machine
abbrev pub escaped_path : List ℕ → Option (List ℕ)
escaped_path rest = if starts_with nat_eq rest (codes "//") then on_this_machine (drop 2 rest) else rooted rest

-- the same of a name, where it has the scheme
abbrev pub file_path : List ℕ → Option (List ℕ)
file_path name = if is_file name then escaped_path (behind_scheme name) else None

-- A file of this machine, with this path.
abbrev pub HasPath : List ℕ → List ℕ → Type 0
HasPath name path = (is_file name ≡ true) × (escaped_path (behind_scheme name) ≡ Some path)

-- A path is named where it stands behind the scheme from the root on, on this machine, and is a text. Its escapes are read.
abbrev pub IsNamed : List ℕ → Named → Type 0
IsNamed name (Path path) = (escaped : List ℕ) × HasPath name escaped × (path ≡ percent_decode escaped) × IsUtf8 (percent_decode escaped)
IsNamed name NoFile = is_file name ≡ false
IsNamed name Elsewhere = (is_file name ≡ true) × (escaped_path (behind_scheme name) ≡ None)
IsNamed name NoText = (escaped : List ℕ) × HasPath name escaped × ¬ IsUtf8 (percent_decode escaped)

-- letters, digits and four marks stand for themselves in a name: `-`, `.`, `_` and `~`
abbrev pub stands : ℕ → Bool
stands b = is_ascii_alphanumeric b || (b == 45 || (b == 46 || (b == 95 || b == 126)))

-- all others are escaped
abbrev pub escaped : List ℕ → List ℕ
escaped file = flat_map (λ b. if stands b then b ∷ [] else percent_encode_byte b) file
