-- Which tokens are read, and stand for nothing in the sources that are supported.
use Rattle.std.specs.Prelude.{◌≡◌, Option, Some, None, if◌then◌else◌, codes}
use Rattle.mg_text.specs.Call.{Name}
use Rattle.mg_read.specs.Culprit.{Culprit, culprit}
use Rattle.jv_tree.specs.declared.token.Sign.{Sign}
use Rattle.jv_tree.specs.declared.token.Sign.TheVariants as signs
use Rattle.jv_tree.specs.declared.token.TokenKind.{TokenKind}
use Rattle.jv_tree.specs.declared.token.TokenKind.TheVariants as kinds
use Rattle.jv_tree.specs.declared.token.Token.{Token}
use Rattle.jv_tree.specs.Tokens.{is_among, unsupported}

-- ? & | ^ ~
abbrev pub unsupported_sign : Sign → Option Name
unsupported_sign signs.Question = Some (codes "?")
unsupported_sign signs.Ampersand = Some (codes "&")
unsupported_sign signs.Bar = Some (codes "|")
unsupported_sign signs.Caret = Some (codes "^")
unsupported_sign signs.Tilde = Some (codes "~")
unsupported_sign _ = None

-- the text of such a word or sign
abbrev pub unsupported_text : TokenKind → Option Name
unsupported_text (kinds.Word w) = if is_among unsupported w then Some w else None
unsupported_text (kinds.Sign s) = unsupported_sign s
unsupported_text (kinds.Number n) = None
unsupported_text (kinds.Text t) = None

-- Unsupported: a token is such a word or sign
abbrev pub IsUnsupported : Token → Culprit → Type 0
IsUnsupported t c = (text : Name) × (unsupported_text t.kind ≡ Some text) × (c ≡ culprit t.place text)
