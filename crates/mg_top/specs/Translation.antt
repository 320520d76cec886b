-- What translating Scribble files gives.
use Rattle.std.specs.Prelude.{◌≡◌, map, List, [], ◌∷◌, ◌++◌, codes, Option, None}
use Rattle.mg_read.specs.First.{Judged, with_earlier}
use Rattle.scr_tree.specs.Tree.{LocalTree}
use Rattle.scr_tree.specs.Meaning.{protocol_of}
use Rattle.ts_tree.specs.Typestate.{Typestate}
use Rattle.ts_read.specs.Layout.{layout}
use Rattle.stm_gen.specs.Laid.{IsLaid}
use Rattle.stm_gen.specs.Numbered.{typestate_of}
use Rattle.stm_gen.specs.Agreement.{Agrees}
use Rattle.stm_api.specs.Api.{ApiText, IsApi}
use Rattle.api_package.specs.Heads.{headed}
use Rattle.mg_delivery.specs.declared.delivery.Action.{Action}
use Rattle.mg_delivery.specs.declared.delivery.Action.TheVariants.{Write}
use Rattle.mg_words.specs.Words.{Word}
use Rattle.mg_sources.specs.Files.{Source}
use Rattle.mg_sources.specs.Reading.{Protocol, Reads}
use Rattle.mg_sources.specs.Sources.{SharesRole}
use Rattle.mg_delivery.specs.Files.{Output}
use Rattle.mg_top.specs.Writing.{in_folder}

-- where the files of a translation go: the Java files into a package, and all into a folder, where one is named
pub record Target : Type 0 where
  pub package_name : Option Word
  pub folder : Option Word

-- The file of a protocol's typestate: the typestate is the one that the numbers of the text give, and it allows exactly the protocol's
-- calls.
pub record IsTypestateFile (folder : Option Word) (local : LocalTree) (file : Output) : Type 0 where
  pub typestate : Typestate
  pub numbered : typestate ≡ typestate_of local
  pub laid : IsLaid local typestate
  pub agrees : Agrees local.me (protocol_of local) typestate
  pub named : file.name ≡ in_folder folder (local.me ++ codes "Protocol.protocol")
  pub layout : file.text ≡ layout typestate

-- a file of an API is written, in the folder where there is one
abbrev pub api_written : Option Word → ApiText → Action
api_written folder file = Write (record { name = in_folder folder file.name; text = file.text })

-- what is written for a protocol: its typestate, then its API, the class first and then the enums, with the heads of their package
pub record IsTranslation (to : Target) (local : LocalTree) (writes : List Action) : Type 0 where
  pub typestate : Output
  pub is_typestate : IsTypestateFile to.folder local typestate
  pub files : List ApiText
  pub is_api : IsApi local files
  pub both : writes ≡ Write typestate ∷ map (api_written to.folder) (headed to.package_name files)

-- the file spells a valid local protocol, and these writes are its translation
pub record Translates (to : Target) (source : Source) (writes : List Action) : Type 0 where
  pub local : LocalTree
  pub spelled : Reads source (Protocol local)
  pub translation : IsTranslation to local writes

-- each of the files is translated, in their order
pub data EachTranslates (to : Target) : List Source → List Action → Type 0 where
  none : EachTranslates to [] []
  one : {source : Source} {writes : List Action} {sources : List Source} {actions : List Action} →
      Translates to source writes → EachTranslates to sources actions → EachTranslates to (source ∷ sources) (writes ++ actions)

-- These writes are the translations of the files: each spells a protocol, and no two are of one role.
pub record AreTranslated (to : Target) (files : List Source) (writes : List Action) : Type 0 where
  pub each : EachTranslates to files writes
  pub apart : Judged SharesRole (with_earlier files) None
