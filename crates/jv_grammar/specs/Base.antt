-- Reading one token.
use Rattle.std.specs.Prelude.{ℕ, List, [], ◌∷◌, Option, Some, None, Bool, false, leb, if◌then◌else◌}
use Rattle.std.specs.Str.{bytes_eq}
use denote.Enum.Bare.{sameb}
use Rattle.mg_text.specs.Call.{Name}
use Rattle.mg_text.specs.declared.place.Place.{Place}
use Rattle.mg_read.specs.Reader.{Reader}
use Rattle.jv_tree.specs.declared.token.Sign.{Sign}
use Rattle.jv_tree.specs.contracts.token.Sign.{the_type}
use Rattle.jv_tree.specs.declared.token.TokenKind.{TokenKind}
use Rattle.jv_tree.specs.declared.token.TokenKind.TheVariants as kinds
use Rattle.jv_tree.specs.declared.token.Token.{Token}
use Rattle.jv_tree.specs.Source.{Expr}
use Rattle.jv_tree.specs.Depth.{depth}
use Rattle.jv_tree.specs.Tokens.{is_name}

abbrev pub same_sign : Sign → Sign → Bool
same_sign = sameb the_type

abbrev pub sign_in : Sign → Place → TokenKind → List Token → Option (Place × List Token)
sign_in s p (kinds.Word w) ts = None
sign_in s p (kinds.Number n) ts = None
sign_in s p (kinds.Text t) ts = None
sign_in s p (kinds.Sign k) ts = if same_sign k s then Some (p, ts) else None

-- the place of this sign
abbrev pub sign_at : Sign → Reader Token Place
sign_at s [] = None
sign_at s (t ∷ ts) = sign_in s t.place t.kind ts

abbrev pub is_sign_kind : Sign → TokenKind → Bool
is_sign_kind s (kinds.Word w) = false
is_sign_kind s (kinds.Number n) = false
is_sign_kind s (kinds.Text t) = false
is_sign_kind s (kinds.Sign k) = same_sign k s

-- whether this sign comes next
abbrev pub is_sign : Sign → List Token → Bool
is_sign s [] = false
is_sign s (t ∷ ts) = is_sign_kind s t.kind

abbrev pub word_in : Name → Place → TokenKind → List Token → Option (Place × List Token)
word_in w p (kinds.Word v) ts = if bytes_eq v w then Some (p, ts) else None
word_in w p (kinds.Number n) ts = None
word_in w p (kinds.Text t) ts = None
word_in w p (kinds.Sign s) ts = None

-- the place of this word
abbrev pub word_at : Name → Reader Token Place
word_at w [] = None
word_at w (t ∷ ts) = word_in w t.place t.kind ts

abbrev pub is_word_kind : Name → TokenKind → Bool
is_word_kind w (kinds.Word v) = bytes_eq v w
is_word_kind w (kinds.Number n) = false
is_word_kind w (kinds.Text t) = false
is_word_kind w (kinds.Sign s) = false

-- whether this word comes next
abbrev pub is_word : Name → List Token → Bool
is_word w [] = false
is_word w (t ∷ ts) = is_word_kind w t.kind

abbrev pub name_in : Place → TokenKind → List Token → Option ((Place × Name) × List Token)
name_in p (kinds.Word w) ts = if is_name w then Some ((p, w), ts) else None
name_in p (kinds.Number n) ts = None
name_in p (kinds.Text t) ts = None
name_in p (kinds.Sign s) ts = None

-- a name, and its place
abbrev pub name_at : Reader Token (Place × Name)
name_at [] = None
name_at (t ∷ ts) = name_in t.place t.kind ts

abbrev pub is_name_kind : TokenKind → Bool
is_name_kind (kinds.Word w) = is_name w
is_name_kind (kinds.Number n) = false
is_name_kind (kinds.Text t) = false
is_name_kind (kinds.Sign s) = false

-- whether a name comes next
abbrev pub is_named : List Token → Bool
is_named [] = false
is_named (t ∷ ts) = is_name_kind t.kind

-- an expression, where it is at most so deep
abbrev pub fits : ℕ → Expr → List Token → Option (Expr × List Token)
fits d e ts = if leb (depth e) d then Some (e, ts) else None
