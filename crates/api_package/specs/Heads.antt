-- What stands before the text of a generated Java file that is in a package, and the law that such a file declares what it does without.
use Rattle.std.specs.Prelude.{◌≡◌, ◌≤◌, ℕ, List, [], ◌∷◌, ◌++◌, map, length, codes, Option, Some, None, Contains}
use Rattle.std.specs.List.{flat_map}
use Rattle.mg_text.specs.Call.{Name}
use Rattle.scr_tree.specs.Tree.{LocalTree}
use Rattle.scr_tree.specs.Valid.{IsValid}
use Rattle.jv_tree.specs.Source.{File}
use Rattle.jv_read.specs.Spelling.{Spells}
use Rattle.jv_back.specs.Bare.{bare_file}
use Rattle.stm_api.specs.Api.{ApiText, IsApi}
use Rattle.api_package.specs.Package.{IsPackage}

-- a word, a path, a semicolon and a line feed
abbrev pub head_line : (word path : List ℕ) → List ℕ
head_line word path = word ++ 32 ∷ (path ++ 59 ∷ 10 ∷ [])

-- the line of the package, a line for each class that is imported, and an empty line
abbrev pub head : (package_name : Name) → (imports : List Name) → List ℕ
head package_name imports = head_line (codes "package") package_name ++ (flat_map (head_line (codes "import")) imports ++ 10 ∷ [])

-- what the class of a role imports; an enum imports nothing
abbrev pub class_imports : List Name
class_imports = codes "mungo.lib.Session" ∷ codes "mungo.lib.Typestate" ∷ []

abbrev pub with_head : List ℕ → ApiText → ApiText
with_head h file = record file { text = h ++ file.text }

-- The files of an API, the class first and then the enums, in a package where one is named.
abbrev pub headed : Option Name → List ApiText → List ApiText
headed None files = files
headed (Some package_name) [] = []
headed (Some package_name) (class ∷ enums) = with_head (head package_name class_imports) class ∷ map (with_head (head package_name [])) enums

-- The text of each file in a package spells the declarations of the same file without: heads are read, and dropped.
abbrev pub HeadedAreSpelled : Type 0
HeadedAreSpelled =
    (local : LocalTree) (files : List ApiText) (package_name : Option Name) (f : ApiText) (file : ℕ) → IsValid local → IsApi local files →
    ((name : Name) → package_name ≡ Some name → IsPackage name) → Contains (headed package_name files) f → length f.text ≤ 1048576 →
    (back : File) × Spells file f.text back × (bare_file back ≡ bare_file f.tree)
