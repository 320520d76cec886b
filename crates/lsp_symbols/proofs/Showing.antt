-- The symbols of a document, put together.
use Rattle.std.proofs.Common.{◌≡◌, ℕ, List, [], sym, subst}
use Rattle.std.specs.Str.{IsUtf8}
use Rattle.mg_text.specs.Call.{Name}
use Rattle.mg_refusal.specs.Refusals.{Refusal}
use Rattle.mg_sources.specs.Files.{Source, source_of}
use Rattle.mg_sources.specs.Reading.{Refuses}
use Rattle.lsp_text.specs.declared.encoding.Encoding.{Encoding}
use Rattle.lsp_messages.specs.declared.outgoing.Symbol.{Symbol}
use Rattle.lsp_symbols.specs.declared.things.Declared.{Declared}
use Rattle.lsp_symbols.specs.Declares.{Declares, refused}
use Rattle.lsp_symbols.specs.Symbols.{AreSymbolsOf, AreShown, AreSymbols, some, none}

-- what is refused declares nothing
pub refused_none : (source : Source) (things : List Declared) (r : Refusal) → things ≡ [] → Refuses source r → Declares source things
refused_none source things r e h = subst (λ (xs : List Declared). Declares source xs) (sym e) (refused h)

module _ (encoding : Encoding) (document : Name) where
  -- what a text declares, and its symbols
  pub all_shown : (text bytes : List ℕ) (things slice : List Declared) (symbols : List Symbol) → bytes ≡ text → slice ≡ things →
      Declares (source_of 0 document bytes) things → AreSymbolsOf encoding document text slice symbols →
      AreShown encoding document text symbols
  all_shown text bytes things slice symbols e s d are = record {
    things = things;
    declared = subst (λ (bs : List ℕ). Declares (source_of 0 document bs) things) e d;
    are = subst (λ (ds : List Declared). AreSymbolsOf encoding document text ds symbols) s are;
  }

  pub text_shown : (bytes text : List ℕ) (symbols : List Symbol) → text ≡ bytes → IsUtf8 bytes → AreShown encoding document text symbols →
      AreSymbols encoding document bytes symbols
  text_shown bytes text symbols e utf8 h = some utf8 (subst (λ (bs : List ℕ). AreShown encoding document bs symbols) e h)

  pub none_shown : (bytes : List ℕ) (symbols : List Symbol) → symbols ≡ [] → (IsUtf8 bytes → ⊥) → AreSymbols encoding document bytes symbols
  none_shown bytes symbols e h = subst (λ (ss : List Symbol). AreSymbols encoding document bytes ss) (sym e) (none h)
