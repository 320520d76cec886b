-- What a document declares.
use Rattle.std.specs.Prelude.{◌≡◌, ℕ, List, []}
use Rattle.mg_refusal.specs.Refusals.{Refusal}
use Rattle.mg_sources.specs.Files.{Source}
use Rattle.mg_sources.specs.Reading.{Part, Protocol, States, Classes, Reads, Refuses}
use Rattle.lsp_symbols.specs.declared.named.Language.{Language}
use Rattle.lsp_symbols.specs.declared.named.Language.TheVariants as languages
use Rattle.lsp_symbols.specs.declared.things.Declared.{Declared}
use Rattle.lsp_symbols.specs.declared.tokens.Token.{Token}
use Rattle.lsp_symbols.specs.Tokens.{AreTokens}
use Rattle.lsp_symbols.specs.Named.{declared_in}
use Rattle.lsp_symbols.specs.Classes.{classes_in}

-- what the tokens of the bytes declare
pub record AreNamed (language : Language) (bytes : List ℕ) (things : List Declared) : Type 0 where
  pub tokens : List Token
  pub cut : AreTokens bytes tokens
  pub named : things ≡ declared_in language tokens

-- What a file of these bytes declares that spells this. The trees of protocols and typestates keep no places of their names, so these are
-- sought among the tokens; that of a Java source keeps them.
abbrev pub PartDeclares : (bytes : List ℕ) → Part → List Declared → Type 0
PartDeclares bytes (Protocol local) things = AreNamed languages.Protocols bytes things
PartDeclares bytes (States typestate) things = AreNamed languages.Typestates bytes things
PartDeclares bytes (Classes file) things = things ≡ classes_in file

-- a document that its reader refuses declares nothing
pub data Declares (source : Source) : List Declared → Type 0 where
  read : {part : Part} {things : List Declared} → Reads source part → PartDeclares source.bytes part things → Declares source things
  refused : {r : Refusal} → Refuses source r → Declares source []
