-- What the readers make of the bytes of a file.
use Rattle.std.specs.Prelude.{◌≡◌, List, [], ◌∷◌, codes}
use Rattle.mg_text.specs.declared.place.Place.{Place}
use Rattle.scr_tree.specs.Faults.{condition_word}
use Rattle.scr_tree.specs.Tree.{LocalTree}
use Rattle.ts_tree.specs.Typestate.{Typestate}
use Rattle.jv_tree.specs.Source.{File}
use Rattle.mg_read.specs.Within.{IsWithin}
use Rattle.scr_read.specs.Outcome as scribble
use Rattle.ts_read.specs.Outcome as typestates
use Rattle.jv_read.specs.Outcome as java
use Rattle.mg_refusal.specs.Refusals.{Refusal, refusal_at}
use Rattle.mg_refusal.specs.Order.{InFile}
use Rattle.mg_sources.specs.Files.{Source, Scribble, Typestates, Java, IsOf}
use Rattle.mg_sources.specs.Words.{typestate_word}

-- what a file spells
pub data Part : Type 0 where
  Protocol : LocalTree → Part
  States : Typestate → Part
  Classes : File → Part

pub data Reads (source : Source) : Part → Type 0 where
  protocol : {local : LocalTree} → IsOf Scribble source → scribble.Outcome source.number source.bytes (scribble.Protocol local) →
      Reads source (Protocol local)
  states : {typestate : Typestate} → IsOf Typestates source → typestates.Outcome source.number source.bytes (typestates.Read typestate) →
      Reads source (States typestate)
  classes : {file : File} → IsOf Java source → java.Outcome source.number source.bytes (java.Read file) → Reads source (Classes file)

-- each of the files spells one of these, in their order
abbrev pub EachSpells : List Source → List Part → Type 0
EachSpells [] [] = Unit {0}
EachSpells [] (part ∷ more) = ⊥
EachSpells (source ∷ sources) [] = ⊥
EachSpells (source ∷ sources) (part ∷ more) = Reads source part × EachSpells sources more

-- What is said of an answer that is a fault; of the place of Syntax no more is said than this.
module _ (IsPlace : Place → Type 0) where
  abbrev pub IsSaidOfProtocol : scribble.Answer → Refusal → Type 0
  IsSaidOfProtocol (scribble.Protocol local) r = ⊥
  IsSaidOfProtocol (scribble.TooLarge place) r = r ≡ refusal_at (codes "TooLarge") place []
  IsSaidOfProtocol (scribble.BadByte place) r = r ≡ refusal_at (codes "BadByte") place []
  IsSaidOfProtocol (scribble.Unsupported place word) r = r ≡ refusal_at (codes "Unsupported") place word
  IsSaidOfProtocol scribble.Syntax r = (place : Place) × IsPlace place × (r ≡ refusal_at (codes "Syntax") place [])
  IsSaidOfProtocol (scribble.Refused condition place name) r = r ≡ refusal_at (condition_word condition) place name

  abbrev pub IsSaidOfTypestate : typestates.Answer → Refusal → Type 0
  IsSaidOfTypestate (typestates.Read typestate) r = ⊥
  IsSaidOfTypestate (typestates.TooLarge place) r = r ≡ refusal_at (codes "TooLarge") place []
  IsSaidOfTypestate (typestates.BadByte place) r = r ≡ refusal_at (codes "BadByte") place []
  IsSaidOfTypestate typestates.Syntax r = (place : Place) × IsPlace place × (r ≡ refusal_at (codes "Syntax") place [])
  IsSaidOfTypestate (typestates.Refused condition place name) r = r ≡ refusal_at (typestate_word condition) place name

  abbrev pub IsSaidOfJava : java.Answer → Refusal → Type 0
  IsSaidOfJava (java.Read file) r = ⊥
  IsSaidOfJava (java.TooLarge place) r = r ≡ refusal_at (codes "TooLarge") place []
  IsSaidOfJava (java.BadByte place) r = r ≡ refusal_at (codes "BadByte") place []
  IsSaidOfJava (java.OpenComment place) r = r ≡ refusal_at (codes "OpenComment") place []
  IsSaidOfJava (java.OpenText place) r = r ≡ refusal_at (codes "OpenText") place []
  IsSaidOfJava (java.BadEscape place) r = r ≡ refusal_at (codes "BadEscape") place []
  IsSaidOfJava (java.BadNumber place) r = r ≡ refusal_at (codes "BadNumber") place []
  IsSaidOfJava (java.Unsupported place text) r = r ≡ refusal_at (codes "Unsupported") place text
  IsSaidOfJava java.Syntax r = (place : Place) × IsPlace place × (r ≡ refusal_at (codes "Syntax") place [])

-- the place is one of the file
abbrev pub IsIn : Source → Place → Type 0
IsIn source place = IsWithin source.number source.bytes place

-- The bytes of the file are refused by its reader, so.
pub data Refuses (source : Source) (r : Refusal) : Type 0 where
  protocol : (answer : scribble.Answer) → IsOf Scribble source → scribble.Outcome source.number source.bytes answer →
      InFile source.number (IsSaidOfProtocol (IsIn source) answer) r → Refuses source r
  states : (answer : typestates.Answer) → IsOf Typestates source → typestates.Outcome source.number source.bytes answer →
      InFile source.number (IsSaidOfTypestate (IsIn source) answer) r → Refuses source r
  classes : (answer : java.Answer) → IsOf Java source → java.Outcome source.number source.bytes answer →
      InFile source.number (IsSaidOfJava (IsIn source) answer) r → Refuses source r
