-- The cutting of bytes, at the table of both languages.
use Rattle.std.proofs.Common.{◌≡◌, ℕ, ◌<◌, ◌≤◌, List, [], length, refl, sym, subst}
use Rattle.mg_read.specs.Pieces.{IsBadAt}
use Rattle.mg_read.proofs.Fronts.{AreApart}
use Rattle.lsp_symbols.specs.declared.tokens.Token.{Token}
use Rattle.lsp_symbols.specs.Tokens.{shared, AreTokens, uncut, large}

-- the signs begin nothing else
abbrev pub apart : AreApart shared.signs
apart = (refl, (refl, (refl, (refl, (refl, (refl, (refl, (refl, (refl, (refl, (refl, (refl, tt))))))))))))

-- more bytes than a file may hold have no tokens
pub large_none : (bytes : List ℕ) (ts : List Token) → ts ≡ [] → 1048576 < length bytes → AreTokens bytes ts
large_none bytes ts e h = subst (AreTokens bytes) (sym e) (large h)

-- bytes that can't be cut have none
pub uncut_none : (bytes : List ℕ) (ts : List Token) (k : ℕ) → ts ≡ [] → length bytes ≤ 1048576 → IsBadAt shared bytes k → AreTokens bytes ts
uncut_none bytes ts k e h bad = subst (AreTokens bytes) (sym e) (uncut k h bad)
