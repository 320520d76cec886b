-- All that is wrong with files at once: of what follows, the first group that isn't empty.
use Rattle.std.specs.Prelude.{List, [], ◌∷◌, Some, Contains}
use Rattle.mg_read.specs.First.{Judged, with_earlier}
use Rattle.jv_core.specs.Tree as Core
use Rattle.use_rules.specs.declared.demand.Demand.{Demand}
use Rattle.mg_refusal.specs.Refusals.{Refusal, AreAlike}
use Rattle.mg_sources.specs.Files.{Source}
use Rattle.mg_sources.specs.Reading.{Part, Reads, Refuses, EachSpells}
use Rattle.mg_sources.specs.Sources.{Sourced, SharesRole, AreProgram}
use Rattle.mg_accepted.specs.Program.{HaveCore, TypeRefusal}
use Rattle.mg_accepted.specs.Accepted.{AreAccepted, FirstRefusal}
use Rattle.mg_faults.specs.Demands.{said_of, AreFaults}

-- The refusals of the readers, one for each file that is refused, in the order of the words. A file that is named twice is two.
pub data AreRefused : List Source → List Refusal → Type 0 where
  none : AreRefused [] []
  read : {source : Source} {part : Part} {sources : List Source} {rs : List Refusal} → Reads source part → AreRefused sources rs →
      AreRefused (source ∷ sources) rs
  refused : {source : Source} {r : Refusal} {sources : List Source} {rs : List Refusal} → Refuses source r → AreRefused sources rs →
      AreRefused (source ∷ sources) (r ∷ rs)

pub data AllRefusals (files : List Source) : List Refusal → Type 0 where
  -- the refusals of the readers
  readers : {r : Refusal} {rs : List Refusal} → AreRefused files (r ∷ rs) → AllRefusals files (r ∷ rs)
  -- or else the first file whose protocol is of a role that an earlier file's is of
  roles : (parts : List Part) {r : Refusal} → EachSpells files parts → Judged SharesRole (with_earlier files) (Some r) →
      AllRefusals files (r ∷ [])
  -- or else the first type fault
  types : (sourced : Sourced) {r : Refusal} → AreProgram files sourced → TypeRefusal sourced r → AllRefusals files (r ∷ [])
  -- or else all demands that fail
  usages : (core : Core.Program) (d : Demand) (ds : List Demand) → HaveCore files core → AreFaults core (d ∷ ds) →
      AllRefusals files (said_of core (d ∷ ds))

-- The first refusal is among them; where it is of Syntax, at a place of that file.
pub record IsAmong (rs : List Refusal) (first : Refusal) : Type 0 where
  pub refusal : Refusal
  pub there : Contains rs refusal
  pub alike : AreAlike first refusal

abbrev pub FirstIsAmong : Type 0
FirstIsAmong = (files : List Source) (first : Refusal) (rs : List Refusal) → FirstRefusal files first → AllRefusals files rs →
    IsAmong rs first

-- Files that are accepted have none.
abbrev pub NoneWhereAccepted : Type 0
NoneWhereAccepted = (files : List Source) (core : Core.Program) (rs : List Refusal) → AreAccepted files core → AllRefusals files rs → ⊥

-- Two lists of refusals are alike, one by one.
abbrev pub AreAllAlike : List Refusal → List Refusal → Type 0
AreAllAlike [] [] = Unit {0}
AreAllAlike [] (q ∷ qs) = ⊥
AreAllAlike (r ∷ rs) [] = ⊥
AreAllAlike (r ∷ rs) (q ∷ qs) = AreAlike r q × AreAllAlike rs qs

-- Files have one list, but for the places of Syntax.
abbrev pub OneList : Type 0
OneList = (files : List Source) (rs qs : List Refusal) → AllRefusals files rs → AllRefusals files qs → AreAllAlike rs qs
