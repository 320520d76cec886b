-- The files that a command reads, and what each is by the end of its name.
use Rattle.std.specs.Prelude.{◌≡◌, ℕ, suc, List, [], ◌∷◌, ◌++◌, All, codes}

-- a file that was read: its number, its name and the bytes that were read of it
pub record Source : Type 0 where
  pub number : ℕ
  pub name : List ℕ
  pub bytes : List ℕ

abbrev pub source_of : ℕ → List ℕ → List ℕ → Source
source_of number name bytes = record { number = number; name = name; bytes = bytes }

-- the files of these names with these contents, numbered from here on
abbrev pub sources_from : ℕ → List (List ℕ) → List (List ℕ) → List Source
sources_from n [] contents = []
sources_from n (name ∷ names) [] = []
sources_from n (name ∷ names) (bytes ∷ more) = source_of n name bytes ∷ sources_from (suc n) names more

-- the files of a command
abbrev pub sources : List (List ℕ) → List (List ℕ) → List Source
sources = sources_from 0

abbrev pub EndsWith : List ℕ → List ℕ → Type 0
EndsWith suffix name = (front : List ℕ) × (name ≡ front ++ suffix)

-- what files are read: local protocols, typestates, and classes and enums
pub data Kind : Type 0 where
  Scribble : Kind
  Typestates : Kind
  Java : Kind

abbrev pub suffix_of : Kind → List ℕ
suffix_of Scribble = codes ".scr"
suffix_of Typestates = codes ".protocol"
suffix_of Java = codes ".java"

-- the file is of this kind, by the end of its name
abbrev pub IsOf : Kind → Source → Type 0
IsOf kind source = EndsWith (suffix_of kind) source.name

-- the name of each file tells of which kind it is
abbrev pub HaveKinds : List (List ℕ) → Type 0
HaveKinds names = All (λ name. (kind : Kind) × EndsWith (suffix_of kind) name) names
