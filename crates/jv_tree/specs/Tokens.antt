-- Tokens as definitions speak of them, and which words are names.
use Rattle.std.specs.Prelude.{◌≡◌, ℕ, List, [], ◌∷◌, ◌++◌, Bool, true, not, codes}
use Rattle.std.specs.List.{list_any}
use Rattle.std.specs.Str.{bytes_eq}
use Rattle.mg_text.specs.Call.{Name}
use Rattle.mg_text.specs.declared.place.Place.{Place}
use Rattle.jv_tree.specs.declared.token.Sign.{Sign}
use Rattle.jv_tree.specs.declared.token.TokenKind.TheVariants as kinds
use Rattle.jv_tree.specs.declared.token.Token.{Token}

-- a word, a number, a text and a sign at a place
abbrev pub word : Place → Name → Token
word p w = record { kind = kinds.Word w; place = p }

abbrev pub number : Place → ℕ → Token
number p n = record { kind = kinds.Number n; place = p }

abbrev pub quoted : Place → List ℕ → Token
quoted p t = record { kind = kinds.Text t; place = p }

abbrev pub sign : Place → Sign → Token
sign p s = record { kind = kinds.Sign s; place = p }

-- the words of the language, which are no names
abbrev pub reserved : List Name
reserved =
    codes "boolean" ∷ codes "break" ∷ codes "case" ∷ codes "class" ∷ codes "continue" ∷ codes "default" ∷ codes "do" ∷ codes "else"
    ∷ codes "enum" ∷ codes "final" ∷ codes "if" ∷ codes "import" ∷ codes "int" ∷ codes "new" ∷ codes "package" ∷ codes "private"
    ∷ codes "protected" ∷ codes "public" ∷ codes "return" ∷ codes "static" ∷ codes "switch" ∷ codes "this" ∷ codes "void"
    ∷ codes "while" ∷ codes "true" ∷ codes "false" ∷ codes "null" ∷ []

-- the words of Java that are read here, and stand for nothing
abbrev pub unsupported : List Name
unsupported =
    codes "abstract" ∷ codes "assert" ∷ codes "byte" ∷ codes "catch" ∷ codes "char" ∷ codes "const" ∷ codes "double"
    ∷ codes "extends" ∷ codes "finally" ∷ codes "float" ∷ codes "for" ∷ codes "goto" ∷ codes "implements" ∷ codes "instanceof"
    ∷ codes "interface" ∷ codes "long" ∷ codes "native" ∷ codes "short" ∷ codes "strictfp" ∷ codes "super" ∷ codes "synchronized"
    ∷ codes "throw" ∷ codes "throws" ∷ codes "transient" ∷ codes "try" ∷ codes "volatile" ∷ []

abbrev pub is_among : List Name → Name → Bool
is_among words w = list_any (λ v. bytes_eq v w) words

-- a name is a word of neither list
unfoldable pub is_name : Name → Bool
is_name w = not (is_among (reserved ++ unsupported) w)

abbrev pub IsName : Name → Type 0
IsName w = is_name w ≡ true

-- the first of these tokens stands there
abbrev pub BeginsAt : Place → List Token → Type 0
BeginsAt p [] = ⊥
BeginsAt p (t ∷ ts) = t.place ≡ p

-- the place of the first token, or else of what comes after them
abbrev pub first_place : List Token → Place → Place
first_place [] after = after
first_place (t ∷ ts) after = t.place
