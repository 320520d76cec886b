-- Which tokens the bytes of a Scribble file are.
use Rattle.std.specs.Prelude.{ℕ, List, [], ◌∷◌, Option, Some, None, true, codes}
use Rattle.mg_text.specs.Call.{Name}
use Rattle.mg_text.specs.declared.place.Place.{Place}
use Rattle.mg_read.specs.Passes.{StartsWith}
use Rattle.mg_read.specs.Pieces.{Table, Content, worded, texted, signed, HasTokens, IsBadAt as IsBadIn}
use Rattle.scr_tree.specs.declared.token.Mark.{Mark}
use Rattle.scr_tree.specs.Tok.{Tok, named, quoted, marked}
pub use Rattle.mg_read.specs.Passes.{AllPasses}
pub use Rattle.scr_tree.specs.Words.{is_name_start, is_name_byte, sign_of, reserved}

-- the signs of Scribble, which has texts between quotes
abbrev pub scribble : Table
scribble = record { signs = codes "(){}<>,;."; has_texts = true }

abbrev pub StartsName : List ℕ → Type 0
StartsName = StartsWith is_name_start

-- a word is a name, or the mark that it is reserved for
abbrev pub word_tok : Place → Name → Option Mark → Tok
word_tok place text (Some mark) = marked place mark
word_tok place text None = named place text

abbrev pub sign_toks : Place → Option Mark → List Tok
sign_toks place (Some mark) = marked place mark ∷ []
sign_toks place None = []

-- the token that stands at a place, as the bytes there say
abbrev pub tok_said : Place → Content → List Tok
tok_said place (worded text) = word_tok place text (reserved text) ∷ []
tok_said place (texted body) = quoted place body ∷ []
tok_said place (signed c) = sign_toks place (sign_of c)

-- These are the tokens of the bytes of a file, which are UTF-8 and cut whole.
abbrev pub AreTokens : ℕ → List Tok → List ℕ → Type 0
AreTokens = HasTokens scribble tok_said

-- This is the first offset at which no piece begins, or where the bytes stop to be UTF-8.
abbrev pub IsBadAt : ℕ → List ℕ → Type 0
IsBadAt k bytes = IsBadIn scribble bytes k
