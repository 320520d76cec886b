-- Tokens, as definitions speak of them.
use Rattle.std.specs.Prelude.{List, map}
use Rattle.mg_text.specs.Call.{Name}
use Rattle.mg_text.specs.declared.place.Place.{Place}
use Rattle.scr_tree.specs.declared.token.Mark.{Mark}
use Rattle.scr_tree.specs.declared.token.TokenKind.{TokenKind}
use Rattle.scr_tree.specs.declared.token.TokenKind.TheVariants as kinds
use Rattle.scr_tree.specs.declared.token.Token.{Token}

-- a token at a place: a name, a quoted text, or a reserved word or sign
pub data Tok : Type 0 where
  named : Place → Name → Tok
  quoted : Place → Name → Tok
  marked : Place → Mark → Tok

abbrev pub tok_at : Place → TokenKind → Tok
tok_at place (kinds.Name text) = named place text
tok_at place (kinds.Quoted text) = quoted place text
tok_at place (kinds.Mark mark) = marked place mark

abbrev pub tok : Token → Tok
tok token = tok_at token.place token.kind

abbrev pub toks : List Token → List Tok
toks tokens = map tok tokens
