-- The tokens of protocols and typestates: words at their places, and signs.
use Rattle.std.specs.Prelude.{ℕ, ◌<◌, ◌≤◌, List, [], ◌∷◌, length, true, codes}
use Rattle.mg_text.specs.declared.place.Place.{Place}
use Rattle.mg_read.specs.Pieces.{Table, Content, worded, texted, signed, HasTokens, IsBadAt}
use Rattle.lsp_symbols.specs.declared.tokens.Token.{Token}
use Rattle.lsp_symbols.specs.declared.tokens.Token.TheVariants as tokens

-- the signs of typestates, among which are those of protocols, and texts between quotes, which protocols have
abbrev pub shared : Table
shared = record { signs = codes "{}()<>=,:;.*"; has_texts = true }

-- texts between quotes name nothing, and are left out
abbrev pub said : Place → Content → List Token
said place (worded text) = tokens.Word place text ∷ []
said place (texted body) = []
said place (signed c) = tokens.Sign c ∷ []

-- The tokens of the bytes of a file. Bytes that can't be cut, or are more than a file may hold, are read by no reader, and have none.
pub data AreTokens (bytes : List ℕ) : List Token → Type 0 where
  cut : {ts : List Token} → length bytes ≤ 1048576 → HasTokens shared said 0 ts bytes → AreTokens bytes ts
  uncut : (k : ℕ) → length bytes ≤ 1048576 → IsBadAt shared bytes k → AreTokens bytes []
  large : 1048576 < length bytes → AreTokens bytes []
