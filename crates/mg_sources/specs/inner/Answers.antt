-- What the functions that read the files of a command may answer.
use Rattle.std.specs.Prelude.{◌≡◌, ℕ, suc, List, [], ◌∷◌, ◌++◌, map}
use Rattle.ts_tree.specs.Typestate.{Typestate}
use Rattle.jv_tree.specs.Source.{File}
use Rattle.mg_sources.specs.Reading.{Part, Protocol, States, Classes}
use Rattle.mg_sources.specs.Sources.{Sourced, empty, adding, Stands}

-- the role of a part that is a protocol
abbrev pub role_in : Part → List (List ℕ)
role_in (Protocol local) = local.me ∷ []
role_in (States typestate) = []
role_in (Classes file) = []

-- these parts, of files numbered from here on, stand together for a program
pub data Make : ℕ → List Part → Sourced → Type 0 where
  none : {number : ℕ} → Make number [] empty
  one : {number : ℕ} {part : Part} {parts : List Part} {files : List File} {typestates : List Typestate} {rest : Sourced} →
      Stands part files typestates → Make (suc number) parts rest → Make number (part ∷ parts) (adding number files typestates rest)

-- what a part stands for was appended
pub record Appends (number : ℕ) (part : Part) (before after : Sourced) : Type 0 where
  pub files : List File
  pub typestates : List Typestate
  pub stands : Stands part files typestates
  pub grown : after.program.files ≡ before.program.files ++ files
  pub grown_too : after.program.typestates ≡ before.program.typestates ++ typestates
  pub origins : after.origins ≡ before.origins ++ map (λ t. number) typestates
