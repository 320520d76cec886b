-- Reading statements from left to right.
use Rattle.std.specs.Prelude.{ℕ, zero, suc, ◌+◌, ◌-◌, List, [], ◌∷◌, Option, Some, None, Bool, false, ◌&&◌, ◌||◌, not, is_some, leb}
use Rattle.std.specs.Prelude.{if◌then◌else◌, codes}
use Rattle.std.specs.Str.{bytes_eq}
use Rattle.mg_text.specs.Call.{Name}
use Rattle.mg_text.specs.declared.place.Place.{Place}
use Rattle.mg_read.specs.Reader.{Reader, ◌>>=◌, all_of}
use Rattle.ts_tree.specs.declared.parts.TypeName.{TypeName}
use Rattle.ts_tree.specs.declared.parts.TypeName.TheVariants as types
use Rattle.jv_tree.specs.declared.tree.Op.{Op}
use Rattle.jv_tree.specs.declared.token.Sign.TheVariants as signs
use Rattle.jv_tree.specs.declared.token.TokenKind.{TokenKind}
use Rattle.jv_tree.specs.declared.token.TokenKind.TheVariants as kinds
use Rattle.jv_tree.specs.declared.token.Token.{Token}
use Rattle.jv_tree.specs.Source.{Expr, This, Variable, Member, place_of}
use Rattle.jv_tree.specs.Source.{Stmt, Block, Empty, Local, Assign, If, IfElse, While, Do, Switch, Break, Continue, Return, Print, Eval}
use Rattle.jv_tree.specs.Depth.{depth}
use Rattle.jv_tree.specs.Tokens.{is_name}
use Rattle.jv_tree.specs.Sugar.{compound, counter, changed, one_at, printed, is_call}
use Rattle.jv_tree.specs.View.{stmts_of, OneGroup, groups_of}
use Rattle.jv_grammar.specs.Base.{sign_at, is_sign, word_at, is_word, name_at, is_named}
use Rattle.jv_grammar.specs.Exprs.{closed_at, expr_at, post_at}

-- "(" expr ")"
unfoldable pub cond_at : ℕ → Reader Token Expr
cond_at d ts = sign_at signs.OpenParen ts >>= λ a. closed_at 400 d a.1

-- expr ";"
unfoldable pub ended_at : ℕ → Reader Token Expr
ended_at d ts = expr_at 400 d ts >>= λ e. sign_at signs.Semicolon e.1 >>= λ c. Some (e.0, c.1)

-- what comes behind "final", where it comes
abbrev pub after_final : List Token → List Token
after_final [] = []
after_final (t ∷ ts) = if is_word (codes "final") (t ∷ ts) then ts else t ∷ ts

unfoldable pub type_in : Name → Option TypeName
type_in w =
    if is_name w then Some (if bytes_eq w (codes "String") then types.Text else types.Named w)
    else (if bytes_eq w (codes "int") then Some types.Int else (if bytes_eq w (codes "boolean") then Some types.Boolean else None))

abbrev pub type_kind : TokenKind → List Token → Option (TypeName × List Token)
type_kind (kinds.Word w) ts = type_in w >>= λ ty. Some (ty, ts)
type_kind (kinds.Number n) ts = None
type_kind (kinds.Text t) ts = None
type_kind (kinds.Sign s) ts = None

abbrev pub type_at : Reader Token TypeName
type_at [] = None
type_at (t ∷ ts) = type_kind t.kind ts

-- type name "=" expr ";"
unfoldable pub declared_at : ℕ → Reader Token Stmt
declared_at d ts = do
  ty ← type_at ts
  name ← name_at ty.1
  assign ← sign_at signs.Assign name.1
  value ← ended_at d assign.1
  Some (Local name.0.0 ty.0 name.0.1 value.0, value.1)

-- [ "final" ] type name "=" expr ";"
unfoldable pub local_at : ℕ → Reader Token Stmt
local_at d ts = declared_at d (after_final ts)

-- whether two names come next
abbrev pub is_typed : List Token → Bool
is_typed [] = false
is_typed (t ∷ ts) = is_named (t ∷ ts) && is_named ts

-- whether a declaration comes next
abbrev pub is_decl : List Token → Bool
is_decl ts = is_word (codes "final") ts || (is_word (codes "int") ts || (is_word (codes "boolean") ts || is_typed ts))

-- whether the statements of a block or a group end
abbrev pub is_case : List Token → Bool
is_case ts = is_word (codes "case") ts || is_word (codes "default") ts

abbrev pub goes_on : List Token → Bool
goes_on ts = not (is_sign signs.CloseBrace ts || is_case ts)

-- "case" name ":" | "default" ":"
unfoldable pub case_at : Reader Token (Option Name)
case_at ts =
    if is_word (codes "default") ts then (word_at (codes "default") ts >>= λ a. sign_at signs.Colon a.1 >>= λ b. Some (None, b.1))
    else (word_at (codes "case") ts >>= λ a. name_at a.1 >>= λ n. sign_at signs.Colon n.1 >>= λ b. Some (Some n.0.1, b.1))

-- case { case }
unfoldable pub cases_at : Reader Token (List (Option Name))
cases_at ts = case_at ts >>= λ first. all_of is_case case_at first.1 >>= λ more. Some (first.0 ∷ more.0, more.1)

abbrev pub place_ahead : List Token → Option Place
place_ahead [] = None
place_ahead (t ∷ ts) = Some t.place

-- [ name ] ";"
unfoldable pub jump_at : Reader Token (Option Name)
jump_at ts =
    if is_named ts then (name_at ts >>= λ n. sign_at signs.Semicolon n.1 >>= λ c. Some (Some n.0.1, c.1))
    else (sign_at signs.Semicolon ts >>= λ c. Some (None, c.1))

unfoldable pub break_at : Reader Token Stmt
break_at ts = word_at (codes "break") ts >>= λ a. jump_at a.1 >>= λ l. Some (Break a.0 l.0, l.1)

unfoldable pub continue_at : Reader Token Stmt
continue_at ts = word_at (codes "continue") ts >>= λ a. jump_at a.1 >>= λ l. Some (Continue a.0 l.0, l.1)

unfoldable pub return_at : ℕ → Reader Token Stmt
return_at d ts =
    word_at (codes "return") ts >>= λ a.
    if is_sign signs.Semicolon a.1 then (sign_at signs.Semicolon a.1 >>= λ c. Some (Return a.0 None, c.1))
    else (ended_at d a.1 >>= λ e. Some (Return a.0 (Some e.0), e.1))

unfoldable pub empty_at : Reader Token Stmt
empty_at ts = sign_at signs.Semicolon ts >>= λ a. Some (Empty a.0, a.1)

-- ---- assignments

-- target = name | "this" "." name
unfoldable pub target_at : Reader Token Expr
target_at ts =
    if is_word (codes "this") ts then (word_at (codes "this") ts >>= λ a. sign_at signs.Dot a.1 >>= λ b. name_at b.1
    >>= λ n. Some (Member a.0 (This a.0) n.0.1, n.1))
    else (name_at ts >>= λ n. Some (Variable n.0.0 n.0.1, n.1))

abbrev pub compound_kind : TokenKind → List Token → Option (Op × List Token)
compound_kind (kinds.Sign s) ts = compound s >>= λ o. Some (o, ts)
compound_kind (kinds.Word w) ts = None
compound_kind (kinds.Number n) ts = None
compound_kind (kinds.Text t) ts = None

-- the operator of `op=`
abbrev pub compound_at : Reader Token Op
compound_at [] = None
compound_at (t ∷ ts) = compound_kind t.kind ts

abbrev pub counter_kind : Place → TokenKind → List Token → Option ((Place × Op) × List Token)
counter_kind p (kinds.Sign s) ts = counter s >>= λ o. Some ((p, o), ts)
counter_kind p (kinds.Word w) ts = None
counter_kind p (kinds.Number n) ts = None
counter_kind p (kinds.Text t) ts = None

-- the operator of `++` or `--`, and its place
abbrev pub counter_at : Reader Token (Place × Op)
counter_at [] = None
counter_at (t ∷ ts) = counter_kind t.place t.kind ts

abbrev pub is_compound : List Token → Bool
is_compound ts = is_some (compound_at ts)

abbrev pub is_counter : List Token → Bool
is_counter ts = is_some (counter_at ts)

-- an assignment, where its parts are at most so deep
abbrev pub assigned : ℕ → Place → Expr → Expr → List Token → Option (Stmt × List Token)
assigned d p target value ts = if leb (depth target) d && leb (depth value) d then Some (Assign p target value, ts) else None

-- what stands behind a target
unfoldable pub change_at : ℕ → Expr → Reader Token Stmt
change_at d t ts =
    if is_sign signs.Assign ts then (sign_at signs.Assign ts >>= λ a. ended_at d a.1 >>= λ e. assigned d (place_of t) t e.0 e.1)
    else (if is_counter ts then (counter_at ts >>= λ o. sign_at signs.Semicolon o.1 >>= λ c. assigned d (place_of t) t
    (changed o.0.1 t (one_at t)) c.1)
    else (compound_at ts >>= λ o. ended_at d o.1 >>= λ e. assigned d (place_of t) t (changed o.0 t e.0) e.1))

unfoldable pub assign_at : ℕ → Reader Token Stmt
assign_at d ts =
    if is_counter ts then (counter_at ts >>= λ o. target_at o.1 >>= λ t. sign_at signs.Semicolon t.1 >>= λ c. assigned d o.0.0 t.0
    (changed o.0.1 t.0 (one_at t.0)) c.1)
    else (target_at ts >>= λ t. change_at d t.0 t.1)

-- whether what stands behind a target comes next
abbrev pub is_change : List Token → Bool
is_change ts = is_sign signs.Assign ts || (is_counter ts || is_compound ts)

abbrev pub is_field_change : List Token → Bool
is_field_change (a ∷ b ∷ c ∷ ts) = is_word (codes "this") (a ∷ []) && (is_sign signs.Dot (b ∷ []) && (is_named (c ∷ []) && is_change ts))
is_field_change _ = false

abbrev pub is_name_change : List Token → Bool
is_name_change [] = false
is_name_change (t ∷ ts) = is_named (t ∷ []) && is_change ts

-- whether an assignment comes next
abbrev pub is_assign : List Token → Bool
is_assign ts = is_counter ts || (is_name_change ts || is_field_change ts)

-- whether a label comes next
abbrev pub is_label : List Token → Bool
is_label [] = false
is_label (t ∷ ts) = is_named (t ∷ []) && is_sign signs.Colon ts

-- ---- expressions as statements

abbrev pub evaluated_by : ℕ → Place → Expr → Option Expr → Option Stmt
evaluated_by d p c None = if is_call c && leb (depth c) d then Some (Eval p c) else None
evaluated_by d p c (Some e) = if leb (depth e) d then Some (Print p e) else None

-- what the statement of an expression is
abbrev pub evaluated : ℕ → Place → Expr → Option Stmt
evaluated d p c = evaluated_by d p c (printed c)

-- A print is less deep than its expression.
unfoldable pub evaluation_at : ℕ → Reader Token Stmt
evaluation_at d ts = do
  place ← place_ahead ts
  c ← post_at 400 (d + 2) ts
  end ← sign_at signs.Semicolon c.1
  s ← evaluated d place c.0
  Some (s, end.1)

-- the place and the name of a loop's label
abbrev pub loop_place : Place → Option (Place × Name) → Place
loop_place p None = p
loop_place p (Some l) = l.0

abbrev pub loop_label : Option (Place × Name) → Option Name
loop_label None = None
loop_label (Some l) = Some l.1

-- In what follows expressions and statements inside are at most d deep, and f reads such a statement.
module _ (d : ℕ) (f : Reader Token Stmt) where
  unfoldable pub item_with : Reader Token Stmt
  item_with ts = if is_decl ts then local_at (d - 1) ts else f ts

  -- { item }
  unfoldable pub items_with : Reader Token (List Stmt)
  items_with ts = all_of goes_on item_with ts

  unfoldable pub block_with : Reader Token Stmt
  block_with ts = do
    start ← sign_at signs.OpenBrace ts
    body ← items_with start.1
    end ← sign_at signs.CloseBrace body.1
    Some (Block start.0 (stmts_of body.0) end.0, end.1)

  -- what stands behind the first branch of an `if`
  unfoldable pub else_with : Place → Expr → Stmt → Reader Token Stmt
  else_with p c s ts =
      if is_word (codes "else") ts then (word_at (codes "else") ts >>= λ a. f a.1 >>= λ other. Some (IfElse p c s other.0, other.1)) else
      Some (If p c s, ts)

  unfoldable pub if_with : Reader Token Stmt
  if_with ts = do
    start ← word_at (codes "if") ts
    test ← cond_at d start.1
    body ← f test.1
    else_with start.0 test.0 body.0 body.1

  unfoldable pub while_with : Option (Place × Name) → Reader Token Stmt
  while_with l ts = do
    start ← word_at (codes "while") ts
    test ← cond_at d start.1
    body ← f test.1
    Some (While (loop_place start.0 l) (loop_label l) test.0 body.0, body.1)

  unfoldable pub do_with : Option (Place × Name) → Reader Token Stmt
  do_with l ts = do
    start ← word_at (codes "do") ts
    body ← f start.1
    again ← word_at (codes "while") body.1
    test ← cond_at d again.1
    end ← sign_at signs.Semicolon test.1
    Some (Do (loop_place start.0 l) (loop_label l) body.0 test.0, end.1)

  unfoldable pub loop_with : Option (Place × Name) → Reader Token Stmt
  loop_with l ts = if is_word (codes "while") ts then while_with l ts else do_with l ts

  -- name ":" in front of a loop
  unfoldable pub labelled_with : Reader Token Stmt
  labelled_with ts = name_at ts >>= λ n. sign_at signs.Colon n.1 >>= λ c. loop_with (Some n.0) c.1

  unfoldable pub group_with : Reader Token OneGroup
  group_with ts = do
    labels ← cases_at ts
    body ← items_with labels.1
    end ← place_ahead body.1
    Some (record { labels = labels.0; body = stmts_of body.0; end = end }, body.1)

  unfoldable pub groups_with : Reader Token (List OneGroup)
  groups_with ts = all_of is_case group_with ts

  unfoldable pub switch_with : Reader Token Stmt
  switch_with ts = do
    start ← word_at (codes "switch") ts
    value ← cond_at d start.1
    brace ← sign_at signs.OpenBrace value.1
    groups ← groups_with brace.1
    end ← sign_at signs.CloseBrace groups.1
    Some (Switch start.0 value.0 (groups_of groups.0) end.0, end.1)

  -- a statement that holds no other one
  unfoldable pub simple_with : Reader Token Stmt
  simple_with ts =
      if is_word (codes "break") ts then break_at ts
      else (if is_word (codes "continue") ts then continue_at ts
      else (if is_word (codes "return") ts then return_at d ts
      else (if is_assign ts then assign_at d ts
      else evaluation_at d ts)))

  unfoldable pub stmt_with : Reader Token Stmt
  stmt_with ts =
      if is_sign signs.OpenBrace ts then block_with ts
      else (if is_sign signs.Semicolon ts then empty_at ts
      else (if is_word (codes "if") ts then if_with ts
      else (if is_word (codes "while") ts || is_word (codes "do") ts then loop_with None ts
      else (if is_word (codes "switch") ts then switch_with ts
      else (if is_label ts then labelled_with ts
      else simple_with ts)))))

-- a statement that is at most so deep
unfoldable pub stmt_at : ℕ → Reader Token Stmt
stmt_at zero ts = None
stmt_at (suc d) ts = stmt_with d (stmt_at d) ts

-- items that are at most so deep
unfoldable pub items_at : ℕ → Reader Token (List Stmt)
items_at d = items_with d (stmt_at d)
