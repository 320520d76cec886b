-- The program that the files of a command are, and the first refusal of files that are none.
use Rattle.std.specs.Prelude.{◌≡◌, ℕ, List, [], ◌∷◌, ◌++◌, map, Contains, codes, Some, None}
use Rattle.mg_text.specs.Places.{start_of}
use Rattle.mg_read.specs.First.{Judged, with_earlier}
use Rattle.scr_tree.specs.Tree.{LocalTree}
use Rattle.ts_tree.specs.Typestate.{Typestate}
use Rattle.jv_tree.specs.Source.{File}
use Rattle.stm_gen.specs.Numbered.{typestate_of}
use Rattle.stm_api.specs.Api.{ApiText, IsApi}
use Rattle.jv_rules.specs.Program.{Program}
use Rattle.mg_refusal.specs.Refusals.{Refusal, refusal_at}
use Rattle.mg_refusal.specs.Order.{Then}
use Rattle.mg_sources.specs.Files.{Source}
use Rattle.mg_sources.specs.Reading.{Part, Protocol, States, Classes, Reads, EachSpells, Refuses}

-- the Java files and the typestates that a part of a program stands for
pub data Stands : Part → List File → List Typestate → Type 0 where
  -- a protocol: its API class and then its enums, and its typestate
  protocol : {local : LocalTree} {api : List ApiText} → IsApi local api → Stands (Protocol local) (map (λ f. f.tree) api)
      (typestate_of local ∷ [])
  states : {typestate : Typestate} → Stands (States typestate) [] (typestate ∷ [])
  classes : {file : File} → Stands (Classes file) (file ∷ []) []

-- a program, with the number of the file of each of its typestates
pub record Sourced : Type 0 where
  pub program : Program
  pub origins : List ℕ

abbrev pub empty : Sourced
empty = record { program = record { files = []; typestates = [] }; origins = [] }

-- what stands for the file of a number comes first
abbrev pub adding : ℕ → List File → List Typestate → Sourced → Sourced
adding number files typestates s = record {
  program = record { files = files ++ s.program.files; typestates = typestates ++ s.program.typestates };
  origins = map (λ t. number) typestates ++ s.origins;
}

-- each file spells a part, and these together are the program, in the order of the words
pub data Spell : List Source → Sourced → Type 0 where
  none : Spell [] empty
  one : {source : Source} {sources : List Source} {part : Part} {files : List File} {typestates : List Typestate} {rest : Sourced} →
      Reads source part → Stands part files typestates → Spell sources rest →
      Spell (source ∷ sources) (adding source.number files typestates rest)

-- the file spells a protocol of this role
abbrev pub IsOfRole : Source → List ℕ → Type 0
IsOfRole source role = (local : LocalTree) × Reads source (Protocol local) × (local.me ≡ role)

-- the file's protocol is of a role that an earlier file's protocol is of, and is refused so
pub record SharesRole (files : List Source × Source) (r : Refusal) : Type 0 where
  pub role : List ℕ
  pub of_role : IsOfRole files.1 role
  pub earlier : Source
  pub stands : Contains files.0 earlier
  pub also : IsOfRole earlier role
  pub said : r ≡ refusal_at (codes "SameRole") (start_of files.1.number) role

-- These files are this program, and no two of them are protocols of one role.
pub record AreProgram (files : List Source) (sourced : Sourced) : Type 0 where
  pub spell : Spell files sourced
  pub apart : Judged SharesRole (with_earlier files) None

-- The first refusal of these files: by the reader of the first file that is refused, or else at the first file whose protocol is of a role
-- that an earlier file's is of.
abbrev pub FirstRefusal : List Source → Refusal → Type 0
FirstRefusal files = Then (λ r. Judged Refuses files (Some r)) (EachSpells files) (λ parts r. Judged SharesRole (with_earlier files)
    (Some r))
