-- How an expression is spelled: one definition a production, over whole lists of tokens.
use Rattle.std.specs.Prelude.{◌≡◌, ℕ, zero, suc, ◌≤◌, ◌<◌, ℤ, pos, neg_ℤ, List, [], ◌∷◌, ◌++◌, ◌⊎◌, Bool, true, false, codes}
use Rattle.mg_text.specs.declared.place.Place.{Place}
use Rattle.jv_tree.specs.declared.tree.Op.{Op}
use Rattle.jv_tree.specs.declared.tree.Op.TheVariants as ops
use Rattle.jv_tree.specs.declared.token.Sign.{Sign}
use Rattle.jv_tree.specs.declared.token.Sign.TheVariants as signs
use Rattle.jv_tree.specs.declared.token.TokenKind.{TokenKind}
use Rattle.jv_tree.specs.declared.token.TokenKind.TheVariants as kinds
use Rattle.jv_tree.specs.declared.token.Token.{Token}
use Rattle.jv_tree.specs.Source.{Expr, Int, Truth, Text, Null, This, Variable, Member, Neg, Not, Binary, Call, MethodCall, New, Exprs}
use Rattle.jv_tree.specs.Source.{NoExpr, Argument, place_of}
use Rattle.jv_tree.specs.Tokens.{word, number, quoted, sign, IsName}

-- which lists of tokens spell an expression
abbrev pub Language : Type 1
Language = Expr → List Token → Type 0

-- "(" inner ")"
abbrev pub IsInParens : Language → Language
IsInParens inner e ts = (a b : Place) × (us : List Token) × (ts ≡ sign a signs.OpenParen ∷ (us ++ sign b signs.CloseParen ∷ []))
    × inner e us

-- { "," expr }
abbrev pub AreMoreArgs : Language → Exprs → List Token → Type 0
AreMoreArgs inner NoExpr ts = ts ≡ []
AreMoreArgs inner (Argument e more) ts = (a : Place) × (us vs : List Token) × (ts ≡ sign a signs.Comma ∷ (us ++ vs)) × inner e us
    × AreMoreArgs inner more vs

-- [ expr { "," expr } ]
abbrev pub AreArgs : Language → Exprs → List Token → Type 0
AreArgs inner NoExpr ts = ts ≡ []
AreArgs inner (Argument e more) ts = (us vs : List Token) × (ts ≡ us ++ vs) × inner e us × AreMoreArgs inner more vs

-- "(" [args] ")", where so many parentheses may be open at once
abbrev pub AreArguments : ℕ → Language → Exprs → List Token → Type 0
AreArguments n inner args ts = (0 < n) × (a b : Place) × (us : List Token)
    × (ts ≡ sign a signs.OpenParen ∷ (us ++ sign b signs.CloseParen ∷ [])) × AreArgs inner args us

-- number, or "-" directly before a number: 2147483648 stands only there
abbrev pub IsNumber : Place → ℤ → List Token → Type 0
IsNumber p z ts =
    ((n : ℕ) × (n ≤ 2147483647) × (z ≡ pos n) × (ts ≡ number p n ∷ []))
    ⊎ ((n : ℕ) × (q : Place) × (n ≤ 2147483648) × (z ≡ neg_ℤ (pos n)) × (ts ≡ sign p signs.Minus ∷ number q n ∷ []))

abbrev pub truth_word : Bool → List ℕ
truth_word true = codes "true"
truth_word false = codes "false"

abbrev pub is_number_kind : TokenKind → Bool
is_number_kind (kinds.Number n) = true
is_number_kind (kinds.Word w) = false
is_number_kind (kinds.Text t) = false
is_number_kind (kinds.Sign s) = false

-- whether a number comes next
abbrev pub starts_number : List Token → Bool
starts_number [] = false
starts_number (t ∷ ts) = is_number_kind t.kind

-- how an operator is written
abbrev pub sign_of : Op → Sign
sign_of ops.Or = signs.OrOr
sign_of ops.And = signs.AndAnd
sign_of ops.Eq = signs.Equal
sign_of ops.Ne = signs.NotEqual
sign_of ops.Lt = signs.Less
sign_of ops.Le = signs.LessEqual
sign_of ops.Gt = signs.Greater
sign_of ops.Ge = signs.GreaterEqual
sign_of ops.Add = signs.Plus
sign_of ops.Sub = signs.Minus
sign_of ops.Mul = signs.Star
sign_of ops.Div = signs.Slash
sign_of ops.Rem = signs.Percent

-- how loosely an operator binds: * / % before + -, these before < <= > >=, then == !=, then &&, then ||
abbrev pub looseness : Op → ℕ
looseness ops.Mul = 0
looseness ops.Div = 0
looseness ops.Rem = 0
looseness ops.Add = 1
looseness ops.Sub = 1
looseness ops.Lt = 2
looseness ops.Le = 2
looseness ops.Gt = 2
looseness ops.Ge = 2
looseness ops.Eq = 3
looseness ops.Ne = 3
looseness ops.And = 4
looseness ops.Or = 5

-- chain = part | chain op part, where the operators bind so loosely
abbrev pub IsChain : ℕ → Language → Language
IsChain k part (Binary p o l r) ts =
    part (Binary p o l r) ts
    ⊎ ((looseness o ≡ k) × (p ≡ place_of l) × (a : Place) × (us vs : List Token) × (ts ≡ us ++ sign a (sign_of o) ∷ vs) × IsChain k part l
    us × part r vs)
IsChain k part (Int p z) ts = part (Int p z) ts
IsChain k part (Truth p b) ts = part (Truth p b) ts
IsChain k part (Text p t) ts = part (Text p t) ts
IsChain k part (Null p) ts = part (Null p) ts
IsChain k part (This p) ts = part (This p) ts
IsChain k part (Variable p n) ts = part (Variable p n) ts
IsChain k part (Member p e n) ts = part (Member p e n) ts
IsChain k part (Neg p e) ts = part (Neg p e) ts
IsChain k part (Not p e) ts = part (Not p e) ts
IsChain k part (Call p n args) ts = part (Call p n args) ts
IsChain k part (MethodCall p e n args) ts = part (MethodCall p e n args) ts
IsChain k part (New p n) ts = part (New p n) ts

-- In what follows so many parentheses may be open at once, and `inner` is what may stand in one more.
module _ (m : ℕ) (inner : Language) where
  -- number | text | "true" | "false" | "null" | "this" | name | name "(" [args] ")" | "new" name "(" ")"
  abbrev pub IsSimple : Language
  IsSimple (Int p z) ts = IsNumber p z ts
  IsSimple (Truth p b) ts = ts ≡ word p (truth_word b) ∷ []
  IsSimple (Text p t) ts = ts ≡ quoted p t ∷ []
  IsSimple (Null p) ts = ts ≡ word p (codes "null") ∷ []
  IsSimple (This p) ts = ts ≡ word p (codes "this") ∷ []
  IsSimple (Variable p n) ts = IsName n × (ts ≡ word p n ∷ [])
  IsSimple (Call p n args) ts = IsName n × (us : List Token) × (ts ≡ word p n ∷ us) × AreArguments m inner args us
  IsSimple (New p n) ts = (0 < m) × IsName n × (a b c : Place) × (ts ≡ word p (codes "new") ∷ word a n ∷ sign b signs.OpenParen ∷ sign c
      signs.CloseParen ∷ [])
  IsSimple (Member p e n) ts = ⊥
  IsSimple (Neg p e) ts = ⊥
  IsSimple (Not p e) ts = ⊥
  IsSimple (Binary p o l r) ts = ⊥
  IsSimple (MethodCall p e n args) ts = ⊥

  -- primary = one of these | "(" expr ")"
  abbrev pub IsPrimary : Language
  IsPrimary e ts = IsSimple e ts ⊎ IsInParens inner e ts

  -- post = primary | post "." name | post "." name "(" [args] ")"
  abbrev pub IsPost : Language
  IsPost (Member p e n) ts =
      IsPrimary (Member p e n) ts
      ⊎ (IsName n × (p ≡ place_of e) × (a b : Place) × (us : List Token) × (ts ≡ us ++ sign a signs.Dot ∷ word b n ∷ []) × IsPost e us)
  IsPost (MethodCall p e n args) ts =
      IsPrimary (MethodCall p e n args) ts
      ⊎ (IsName n × (p ≡ place_of e) × (a b : Place) × (us vs : List Token) × (ts ≡ us ++ sign a signs.Dot ∷ word b n ∷ vs) × IsPost e us
      × AreArguments m inner args vs)
  IsPost (Int p z) ts = IsPrimary (Int p z) ts
  IsPost (Truth p b) ts = IsPrimary (Truth p b) ts
  IsPost (Text p t) ts = IsPrimary (Text p t) ts
  IsPost (Null p) ts = IsPrimary (Null p) ts
  IsPost (This p) ts = IsPrimary (This p) ts
  IsPost (Variable p n) ts = IsPrimary (Variable p n) ts
  IsPost (Neg p e) ts = IsPrimary (Neg p e) ts
  IsPost (Not p e) ts = IsPrimary (Not p e) ts
  IsPost (Binary p o l r) ts = IsPrimary (Binary p o l r) ts
  IsPost (Call p n args) ts = IsPrimary (Call p n args) ts
  IsPost (New p n) ts = IsPrimary (New p n) ts

  -- unary = post | "-" unary, where no number comes next | "!" unary
  abbrev pub IsUnary : Language
  IsUnary (Neg p e) ts =
      IsPost (Neg p e) ts ⊎ ((us : List Token) × (ts ≡ sign p signs.Minus ∷ us) × (starts_number us ≡ false) × IsUnary e us)
  IsUnary (Not p e) ts = IsPost (Not p e) ts ⊎ ((us : List Token) × (ts ≡ sign p signs.Bang ∷ us) × IsUnary e us)
  IsUnary (Int p z) ts = IsPost (Int p z) ts
  IsUnary (Truth p b) ts = IsPost (Truth p b) ts
  IsUnary (Text p t) ts = IsPost (Text p t) ts
  IsUnary (Null p) ts = IsPost (Null p) ts
  IsUnary (This p) ts = IsPost (This p) ts
  IsUnary (Variable p n) ts = IsPost (Variable p n) ts
  IsUnary (Member p e n) ts = IsPost (Member p e n) ts
  IsUnary (Binary p o l r) ts = IsPost (Binary p o l r) ts
  IsUnary (Call p n args) ts = IsPost (Call p n args) ts
  IsUnary (MethodCall p e n args) ts = IsPost (MethodCall p e n args) ts
  IsUnary (New p n) ts = IsPost (New p n) ts

  -- what operators below a looseness join
  abbrev pub IsBinary : ℕ → Language
  IsBinary zero = IsUnary
  IsBinary (suc k) = IsChain k (IsBinary k)

  -- expr
  abbrev pub IsWhole : Language
  IsWhole = IsBinary 6

-- An expression in parentheses, where so many may be open at once, its own among them.
abbrev pub IsInner : ℕ → Language
IsInner zero e ts = ⊥
IsInner (suc n) e ts = IsWhole n (IsInner n) e ts

-- an expression in which so many parentheses may be open at once
abbrev pub IsExpr : ℕ → Language
IsExpr n = IsWhole n (IsInner n)
