-- The signs of Java, and how each is written.
use Rattle.std.specs.Prelude.{ℕ, List, [], ◌∷◌, ◌++◌, Bool, map, codes}
use Rattle.std.specs.List.{list_any}
use Rattle.std.specs.Str.{bytes_eq}
use Rattle.jv_tree.specs.declared.token.Sign.{Sign}
use Rattle.jv_tree.specs.declared.token.Sign.TheVariants as signs

abbrev pub written : Sign → List ℕ
written signs.OpenBrace = codes "{"
written signs.CloseBrace = codes "}"
written signs.OpenParen = codes "("
written signs.CloseParen = codes ")"
written signs.OpenBracket = codes "["
written signs.CloseBracket = codes "]"
written signs.Semicolon = codes ";"
written signs.Comma = codes ","
written signs.Dot = codes "."
written signs.Assign = codes "="
written signs.Equal = codes "=="
written signs.NotEqual = codes "!="
written signs.Less = codes "<"
written signs.LessEqual = codes "<="
written signs.Greater = codes ">"
written signs.GreaterEqual = codes ">="
written signs.Plus = codes "+"
written signs.Minus = codes "-"
written signs.Star = codes "*"
written signs.Slash = codes "/"
written signs.Percent = codes "%"
written signs.PlusPlus = codes "++"
written signs.MinusMinus = codes "--"
written signs.PlusAssign = codes "+="
written signs.MinusAssign = codes "-="
written signs.StarAssign = codes "*="
written signs.SlashAssign = codes "/="
written signs.PercentAssign = codes "%="
written signs.Bang = codes "!"
written signs.AndAnd = codes "&&"
written signs.OrOr = codes "||"
written signs.Colon = codes ":"
written signs.At = codes "@"
written signs.Question = codes "?"
written signs.Ampersand = codes "&"
written signs.Bar = codes "|"
written signs.Caret = codes "^"
written signs.Tilde = codes "~"

-- the signs of two bytes, and what begins a comment
abbrev pub longer : List (List ℕ)
longer =
    map written (signs.Equal ∷ signs.NotEqual ∷ signs.LessEqual ∷ signs.GreaterEqual ∷ signs.PlusPlus ∷ signs.MinusMinus
    ∷ signs.PlusAssign ∷ signs.MinusAssign ∷ signs.StarAssign ∷ signs.SlashAssign ∷ signs.PercentAssign ∷ signs.AndAnd ∷ signs.OrOr ∷ [])
    ++ (codes "//" ∷ codes "/*" ∷ [])

-- whether a sign with this byte behind it is a longer sign, or begins a comment
abbrev pub goes_on : Sign → ℕ → Bool
goes_on s c = list_any (λ text. bytes_eq text (written s ++ c ∷ [])) longer
