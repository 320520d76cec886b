-- How statements are spelled: one case a production, over whole lists of tokens.
use Rattle.std.specs.Prelude.{◌≡◌, ℕ, List, [], ◌∷◌, ◌++◌, ◌⊎◌, true, false, Option, Some, None, codes}
use Rattle.mg_text.specs.Call.{Name}
use Rattle.mg_text.specs.declared.place.Place.{Place}
use Rattle.ts_tree.specs.declared.parts.TypeName.{TypeName}
use Rattle.ts_tree.specs.declared.parts.TypeName.TheVariants as types
use Rattle.jv_tree.specs.declared.tree.Op.{Op}
use Rattle.jv_tree.specs.declared.token.Sign.{Sign}
use Rattle.jv_tree.specs.declared.token.Sign.TheVariants as signs
use Rattle.jv_tree.specs.declared.token.Token.{Token}
use Rattle.jv_tree.specs.Source.{Expr, This, Variable, Member, place_of}
use Rattle.jv_tree.specs.Source.{Stmt, Block, Empty, Local, Assign, If, IfElse, While, Do, Switch, Break, Continue, Return, Print, Eval}
use Rattle.jv_tree.specs.Source.{Stmts, NoStmt, Then, Groups, NoGroup, Group}
use Rattle.jv_tree.specs.Tokens.{word, sign, IsName, BeginsAt, first_place}
use Rattle.jv_tree.specs.Sugar.{compound, counter, changed, one_at, printed, is_call, takes_else, is_one_group}
use Rattle.jv_tree.specs.Expressions.{IsInParens, IsInner, IsExpr}

-- how many parentheses may be open at once
abbrev pub most_open : ℕ
most_open = 400

-- an expression that stands in no parentheses of a statement's own
abbrev pub IsFree : Expr → List Token → Type 0
IsFree = IsExpr most_open

-- "(" expr ")"
abbrev pub IsCondition : Expr → List Token → Type 0
IsCondition = IsInParens (IsInner most_open)

-- the word of a type
abbrev pub type_word : TypeName → Name
type_word types.Void = codes "void"
type_word types.Int = codes "int"
type_word types.Boolean = codes "boolean"
type_word types.Text = codes "String"
type_word (types.Named n) = n

-- type = "int" | "boolean" | name, where the name `String` is the type of texts
abbrev pub IsType : TypeName → Type 0
IsType types.Void = ⊥
IsType types.Int = Unit {0}
IsType types.Boolean = Unit {0}
IsType types.Text = Unit {0}
IsType (types.Named n) = IsName n × (n ≡ codes "String" → ⊥)

-- [ "final" ]
abbrev pub IsFinal : List Token → Type 0
IsFinal ts = (ts ≡ []) ⊎ ((a : Place) × (ts ≡ word a (codes "final") ∷ []))

-- [ name ]
abbrev pub IsOptionalName : Option Name → List Token → Type 0
IsOptionalName None ts = ts ≡ []
IsOptionalName (Some n) ts = IsName n × (a : Place) × (ts ≡ word a n ∷ [])

-- [ name ":" ] in front of a loop whose own first token stands at the second place
abbrev pub IsLabel : Place → Place → Option Name → List Token → Type 0
IsLabel p q None ts = (p ≡ q) × (ts ≡ [])
IsLabel p q (Some n) ts = IsName n × (a : Place) × (ts ≡ word p n ∷ sign a signs.Colon ∷ [])

-- target = name | "this" "." name
abbrev pub IsTarget : Expr → List Token → Type 0
IsTarget (Variable p n) ts = IsName n × (ts ≡ word p n ∷ [])
IsTarget (Member p (This q) n) ts = IsName n × (p ≡ q) × (a b : Place) × (ts ≡ word q (codes "this") ∷ sign a signs.Dot ∷ word b n ∷ [])
IsTarget _ ts = ⊥

-- target "=" expr ";"
abbrev pub IsPlainAssign : Place → Expr → Expr → List Token → Type 0
IsPlainAssign p target value ts =
    (p ≡ place_of target) × (a b : Place) × (us vs : List Token)
    × (ts ≡ us ++ sign a signs.Assign ∷ (vs ++ sign b signs.Semicolon ∷ [])) × IsTarget target us × IsFree value vs

-- target op= expr ";"
abbrev pub IsCompound : Place → Expr → Expr → List Token → Type 0
IsCompound p target value ts =
    (p ≡ place_of target) × (s : Sign) × (o : Op) × (e : Expr) × (a b : Place) × (us vs : List Token)
    × (ts ≡ us ++ sign a s ∷ (vs ++ sign b signs.Semicolon ∷ [])) × (compound s ≡ Some o) × (value ≡ changed o target e) × IsTarget target
    us × IsFree e vs

-- target inc ";"
abbrev pub IsCounterAfter : Place → Expr → Expr → List Token → Type 0
IsCounterAfter p target value ts =
    (p ≡ place_of target) × (s : Sign) × (o : Op) × (a b : Place) × (us : List Token)
    × (ts ≡ us ++ sign a s ∷ sign b signs.Semicolon ∷ []) × (counter s ≡ Some o) × (value ≡ changed o target (one_at target))
    × IsTarget target us

-- inc target ";"
abbrev pub IsCounterBefore : Place → Expr → Expr → List Token → Type 0
IsCounterBefore p target value ts =
    (s : Sign) × (o : Op) × (b : Place) × (us : List Token)
    × (ts ≡ sign p s ∷ (us ++ sign b signs.Semicolon ∷ [])) × (counter s ≡ Some o) × (value ≡ changed o target (one_at target))
    × IsTarget target us

abbrev pub IsAssign : Place → Expr → Expr → List Token → Type 0
IsAssign p target value ts =
    IsPlainAssign p target value ts ⊎ IsCompound p target value ts ⊎ IsCounterAfter p target value ts ⊎ IsCounterBefore p target value ts

-- expr ";", where the expression meets P
abbrev pub IsEvaluated : (Expr → Type 0) → Place → List Token → Type 0
IsEvaluated P p ts = BeginsAt p ts × (e : Expr) × (a : Place) × (us : List Token) × (ts ≡ us ++ sign a signs.Semicolon ∷ []) × IsFree e us
    × P e

-- [ "final" ] type name "=" expr ";"
abbrev pub IsLocal : Stmt → List Token → Type 0
IsLocal (Local p ty n e) ts =
    IsType ty × IsName n × (a b c : Place) × (us vs : List Token)
    × (ts ≡ us ++ word a (type_word ty) ∷ word p n ∷ sign b signs.Assign ∷ (vs ++ sign c signs.Semicolon ∷ [])) × IsFinal us × IsFree e vs
IsLocal _ ts = ⊥

-- case = "case" name ":" | "default" ":"
abbrev pub IsCase : Option Name → List Token → Type 0
IsCase None ts = (a b : Place) × (ts ≡ word a (codes "default") ∷ sign b signs.Colon ∷ [])
IsCase (Some n) ts = IsName n × (a b c : Place) × (ts ≡ word a (codes "case") ∷ word b n ∷ sign c signs.Colon ∷ [])

-- { case }
abbrev pub AreMoreCases : List (Option Name) → List Token → Type 0
AreMoreCases [] ts = ts ≡ []
AreMoreCases (l ∷ ls) ts = (us vs : List Token) × (ts ≡ us ++ vs) × IsCase l us × AreMoreCases ls vs

-- case { case }
abbrev pub AreCases : List (Option Name) → List Token → Type 0
AreCases [] ts = ⊥
AreCases (l ∷ ls) ts = AreMoreCases (l ∷ ls) ts

-- [ expr ]
abbrev pub IsOptionalExpr : Option Expr → List Token → Type 0
IsOptionalExpr None ts = ts ≡ []
IsOptionalExpr (Some e) ts = IsFree e ts

abbrev mutual
  pub IsStmt : Stmt → List Token → Type 0
  -- "{" { item } "}"
  IsStmt (Block p body end) ts = (us : List Token) × (ts ≡ sign p signs.OpenBrace ∷ (us ++ sign end signs.CloseBrace ∷ []))
      × AreItems body us
  -- ";"
  IsStmt (Empty p) ts = ts ≡ sign p signs.Semicolon ∷ []
  -- a declaration is an item, and no statement
  IsStmt (Local p ty n e) ts = ⊥
  IsStmt (Assign p target value) ts = IsAssign p target value ts
  -- "if" "(" expr ")" stmt
  IsStmt (If p c s) ts = (us vs : List Token) × (ts ≡ word p (codes "if") ∷ (us ++ vs)) × IsCondition c us × IsStmt s vs
  -- "if" "(" expr ")" stmt "else" stmt
  IsStmt (IfElse p c s r) ts =
      (a : Place) × (us vs ws : List Token) × (ts ≡ word p (codes "if") ∷ (us ++ (vs ++ word a (codes "else") ∷ ws)))
      × IsCondition c us × IsStmt s vs × (takes_else s ≡ false) × IsStmt r ws
  -- [ name ":" ] "while" "(" expr ")" stmt
  IsStmt (While p l c s) ts =
      (a : Place) × (us vs ws : List Token) × (ts ≡ us ++ word a (codes "while") ∷ (vs ++ ws)) × IsLabel p a l us × IsCondition c vs
      × IsStmt s ws
  -- [ name ":" ] "do" stmt "while" "(" expr ")" ";"
  IsStmt (Do p l s c) ts =
      (a b d : Place) × (us vs ws : List Token)
      × (ts ≡ us ++ word a (codes "do") ∷ (vs ++ word b (codes "while") ∷ (ws ++ sign d signs.Semicolon ∷ [])))
      × IsLabel p a l us × IsStmt s vs × IsCondition c ws
  -- "switch" "(" expr ")" "{" { case { case } { item } } "}"
  IsStmt (Switch p e groups end) ts =
      (a : Place) × (us vs : List Token)
      × (ts ≡ word p (codes "switch") ∷ (us ++ sign a signs.OpenBrace ∷ (vs ++ sign end signs.CloseBrace ∷ [])))
      × IsCondition e us × AreGroups end groups vs
  -- "break" [ name ] ";"
  IsStmt (Break p l) ts = (a : Place) × (us : List Token) × (ts ≡ word p (codes "break") ∷ (us ++ sign a signs.Semicolon ∷ []))
      × IsOptionalName l us
  -- "continue" [ name ] ";"
  IsStmt (Continue p l) ts = (a : Place) × (us : List Token) × (ts ≡ word p (codes "continue") ∷ (us ++ sign a signs.Semicolon ∷ []))
      × IsOptionalName l us
  -- "return" [ expr ] ";"
  IsStmt (Return p e) ts = (a : Place) × (us : List Token) × (ts ≡ word p (codes "return") ∷ (us ++ sign a signs.Semicolon ∷ []))
      × IsOptionalExpr e us
  -- expr ";", where the expression is System.out.println(e)
  IsStmt (Print p e) ts = IsEvaluated (λ c. printed c ≡ Some e) p ts
  -- expr ";", where the expression is another call or "new"
  IsStmt (Eval p e) ts = IsEvaluated (λ c. (c ≡ e) × (is_call c ≡ true) × (printed c ≡ None)) p ts

  -- { item }, where item = declaration | stmt
  pub AreItems : Stmts → List Token → Type 0
  AreItems NoStmt ts = ts ≡ []
  AreItems (Then s more) ts = (us vs : List Token) × (ts ≡ us ++ vs) × (IsLocal s us ⊎ IsStmt s us) × AreItems more vs

  -- { case { case } { item } }, in front of a token at this place
  pub AreGroups : Place → Groups → List Token → Type 0
  AreGroups close NoGroup ts = ts ≡ []
  AreGroups close (Group labels body end more) ts =
      (us vs ws : List Token) × (ts ≡ us ++ (vs ++ ws)) × AreCases labels us × AreItems body vs × AreGroups close more ws
      × (end ≡ first_place ws close) × (is_one_group body more ≡ false)
