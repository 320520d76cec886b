-- Reading an expression from left to right.
use Rattle.std.specs.Prelude.{ℕ, zero, suc, ◌-◌, pos, neg_ℤ, List, [], ◌∷◌, Option, Some, None, Bool, true, false, ◌&&◌, not, is_some, leb}
use Rattle.std.specs.Prelude.{◌==◌, if◌then◌else◌, codes}
use Rattle.std.specs.Str.{bytes_eq}
use Rattle.std.specs.Borrow.{Bor}
use Rattle.mg_text.specs.Call.{Name}
use Rattle.mg_text.specs.declared.place.Place.{Place}
use Rattle.mg_read.specs.Reader.{Reader, ◌>>=◌, all_of}
use Rattle.jv_tree.specs.declared.tree.Op.{Op}
use Rattle.jv_tree.specs.declared.tree.Op.TheVariants as ops
use Rattle.jv_tree.specs.declared.token.Sign.{Sign}
use Rattle.jv_tree.specs.declared.token.Sign.TheVariants as signs
use Rattle.jv_tree.specs.declared.token.TokenKind.{TokenKind}
use Rattle.jv_tree.specs.declared.token.TokenKind.TheVariants as kinds
use Rattle.jv_tree.specs.declared.token.Token.{Token}
use Rattle.jv_tree.specs.Source.{Expr, Int, Truth, Text, Null, This, Variable, Member, Neg, Not, Binary, Call, MethodCall, New, place_of}
use Rattle.jv_tree.specs.Tokens.{is_name}
use Rattle.jv_tree.specs.Expressions.{looseness, starts_number}
use Rattle.jv_tree.specs.View.{exprs_of}
use Rattle.jv_grammar.specs.Grow.{grown}
use Rattle.jv_grammar.specs.Base.{same_sign, sign_at, is_sign, name_at, fits}

abbrev pub Reads : Type 0
Reads = Reader Token Expr

-- "," expr
unfoldable pub next_arg_with : Reads → Reads
next_arg_with f ts = sign_at signs.Comma ts >>= λ a. f a.1

-- expr { "," expr }
unfoldable pub args_with : Reads → Reader Token (List Expr)
args_with f ts = do
  first ← f ts
  more ← all_of (is_sign signs.Comma) (next_arg_with f) first.1
  Some (first.0 ∷ more.0, more.1)

-- [ expr { "," expr } ] ")"
unfoldable pub closed_args_with : Reads → Reader Token (List Expr)
closed_args_with f ts =
    if is_sign signs.CloseParen ts then (sign_at signs.CloseParen ts >>= λ c. Some ([], c.1))
    else (args_with f ts >>= λ xs. sign_at signs.CloseParen xs.1 >>= λ c. Some (xs.0, c.1))

-- "(" [ expr { "," expr } ] ")", where so many parentheses may be open
unfoldable pub arguments_with : ℕ → Reads → Reader Token (List Expr)
arguments_with zero f ts = None
arguments_with (suc m) f ts = sign_at signs.OpenParen ts >>= λ a. closed_args_with f a.1

-- expr ")"
unfoldable pub closed_with : Reads → Reads
closed_with f ts = f ts >>= λ e. sign_at signs.CloseParen e.1 >>= λ c. Some (e.0, c.1)

abbrev pub negative_in : Place → TokenKind → List Token → Option (Expr × List Token)
negative_in p (kinds.Number n) ts = if leb n 2147483648 then Some (Int p (neg_ℤ (pos n)), ts) else None
negative_in p (kinds.Word w) ts = None
negative_in p (kinds.Text t) ts = None
negative_in p (kinds.Sign s) ts = None

-- the number behind a "-" at this place
abbrev pub negative_at : Place → Reads
negative_at p [] = None
negative_at p (t ∷ ts) = negative_in p t.kind ts

-- name "(" ")" behind "new" at this place
unfoldable pub new_with : ℕ → Place → Reads
new_with zero p ts = None
new_with (suc m) p ts = name_at ts >>= λ n. sign_at signs.OpenParen n.1 >>= λ a. sign_at signs.CloseParen a.1
    >>= λ b. Some (New p n.0.1, b.1)

-- a word that is an expression
unfoldable pub literal : Place → Name → Option Expr
literal p w =
    if bytes_eq w (codes "true") then Some (Truth p true)
    else (if bytes_eq w (codes "false") then Some (Truth p false)
    else (if bytes_eq w (codes "null") then Some (Null p)
    else (if bytes_eq w (codes "this") then Some (This p)
    else None)))

-- whether a "-" comes next that no number follows
abbrev pub is_negation : List Token → Bool
is_negation [] = false
is_negation (t ∷ ts) = is_sign signs.Minus (t ∷ ts) && not (starts_number ts)

-- In what follows so many parentheses may be open, and `inner d` reads what stands in one more, d deep.
module _ (m : ℕ) (inner : ℕ → Reads) where
  -- what a name in front begins
  unfoldable pub named_with : ℕ → Place → Name → Reads
  named_with d p n ts =
      if is_sign signs.OpenParen ts then (arguments_with m (inner (d - 1)) ts >>= λ xs. fits d (Call p n (exprs_of xs.0)) xs.1) else Some
      (Variable p n, ts)

  unfoldable pub word_with : ℕ → Place → Name → Reads
  word_with d p w ts =
      if is_name w then named_with d p w ts
      else (if bytes_eq w (codes "new") then new_with m p ts
      else (literal p w >>= λ e. Some (e, ts)))

  unfoldable pub signed_with : ℕ → Place → Sign → Reads
  signed_with d p s ts =
      if same_sign s signs.OpenParen then closed_with (inner d) ts else (if same_sign s signs.Minus then negative_at p ts else None)

  abbrev pub primary_in : ℕ → Place → TokenKind → Reads
  primary_in d p (kinds.Word w) ts = word_with d p w ts
  primary_in d p (kinds.Number n) ts = if leb n 2147483647 then Some (Int p (pos n), ts) else None
  primary_in d p (kinds.Text t) ts = Some (Text p t, ts)
  primary_in d p (kinds.Sign s) ts = signed_with d p s ts

  abbrev pub first_with : ℕ → Reads
  first_with d [] = None
  first_with d (t ∷ ts) = primary_in d t.place t.kind ts

  unfoldable pub primary_with : ℕ → Reads
  primary_with d ts = if d == 0 then None else first_with d ts

  -- what follows the name behind a "."
  unfoldable pub member_with : ℕ → Expr → Name → Reads
  member_with d e n ts =
      if is_sign signs.OpenParen ts then (arguments_with m (inner (d - 1)) ts >>= λ xs. fits d (MethodCall (place_of e) e n (exprs_of xs.0))
      xs.1)
      else fits d (Member (place_of e) e n) ts

  unfoldable pub tail_with : ℕ → Expr → Reads
  tail_with d e ts = sign_at signs.Dot ts >>= λ a. name_at a.1 >>= λ n. member_with d e n.0.1 n.1

  unfoldable pub post_with : ℕ → Reads
  post_with d ts = primary_with d ts >>= λ e. grown (is_sign signs.Dot) (tail_with d) e.0 e.1

  unfoldable pub unary_with : ℕ → Reads
  unary_with zero ts = None
  unary_with (suc d) ts =
      if is_negation ts then (sign_at signs.Minus ts >>= λ a. unary_with d a.1 >>= λ e. fits (suc d) (Neg a.0 e.0) e.1)
      else (if is_sign signs.Bang ts then (sign_at signs.Bang ts >>= λ a. unary_with d a.1 >>= λ e. fits (suc d) (Not a.0 e.0) e.1)
      else post_with (suc d) ts)

-- the operator that a sign is
abbrev pub operator : Sign → Option Op
operator signs.OrOr = Some ops.Or
operator signs.AndAnd = Some ops.And
operator signs.Equal = Some ops.Eq
operator signs.NotEqual = Some ops.Ne
operator signs.Less = Some ops.Lt
operator signs.LessEqual = Some ops.Le
operator signs.Greater = Some ops.Gt
operator signs.GreaterEqual = Some ops.Ge
operator signs.Plus = Some ops.Add
operator signs.Minus = Some ops.Sub
operator signs.Star = Some ops.Mul
operator signs.Slash = Some ops.Div
operator signs.Percent = Some ops.Rem
operator _ = None

abbrev pub op_if : ℕ → Option Op → List Token → Option (Op × List Token)
op_if k None ts = None
op_if k (Some o) ts = if looseness o == k then Some (o, ts) else None

abbrev pub op_in : ℕ → TokenKind → List Token → Option (Op × List Token)
op_in k (kinds.Sign s) ts = op_if k (operator s) ts
op_in k (kinds.Word w) ts = None
op_in k (kinds.Number n) ts = None
op_in k (kinds.Text t) ts = None

-- an operator that binds so loosely
abbrev pub op_at : ℕ → Reader Token Op
op_at k [] = None
op_at k (t ∷ ts) = op_in k t.kind ts

abbrev pub op_found : Option (Op × Bor (List Token)) → Option (Op × List Token)
op_found None = None
op_found (Some x) = Some (x.0, x.1.now)

abbrev pub is_op : ℕ → List Token → Bool
is_op k ts = is_some (op_at k ts)

-- an operator and the part after it
unfoldable pub joined_with : ℕ → Reads → ℕ → Expr → Reads
joined_with k part d left ts = op_at k ts >>= λ o. part o.1 >>= λ r. fits d (Binary (place_of left) o.0 left r.0) r.1

module _ (m : ℕ) (inner : ℕ → Reads) where
  -- what operators below a looseness join
  unfoldable pub binary_with : ℕ → ℕ → Reads
  binary_with zero d ts = unary_with m inner d ts
  binary_with (suc k) d ts = binary_with k d ts >>= λ first. grown (is_op k) (joined_with k (binary_with k (d - 1)) d) first.0 first.1

-- an expression in parentheses, of which so many may be open, its own among them
unfoldable pub inner_at : ℕ → ℕ → Reads
inner_at zero d ts = None
inner_at (suc m) d ts = binary_with m (inner_at m) 6 d ts

unfoldable pub arguments_at : ℕ → ℕ → Reader Token (List Expr)
arguments_at m d = arguments_with m (inner_at m d)

unfoldable pub named_at : ℕ → ℕ → Place → Name → Reads
named_at m = named_with m (inner_at m)

unfoldable pub word_primary_at : ℕ → ℕ → Place → Name → Reads
word_primary_at m = word_with m (inner_at m)

unfoldable pub joined_at : ℕ → ℕ → ℕ → Expr → Reads
joined_at m k d = joined_with k (binary_with m (inner_at m) k (d - 1)) d

unfoldable pub primary_at : ℕ → ℕ → Reads
primary_at m = primary_with m (inner_at m)

unfoldable pub tail_at : ℕ → ℕ → Expr → Reads
tail_at m = tail_with m (inner_at m)

unfoldable pub post_at : ℕ → ℕ → Reads
post_at m = post_with m (inner_at m)

unfoldable pub unary_at : ℕ → ℕ → Reads
unary_at m = unary_with m (inner_at m)

unfoldable pub binary_at : ℕ → ℕ → ℕ → Reads
binary_at m = binary_with m (inner_at m)

-- expr ")", behind the "("
unfoldable pub closed_at : ℕ → ℕ → Reads
closed_at m d = closed_with (inner_at m d)

unfoldable pub expr_at : ℕ → ℕ → Reads
expr_at m d = binary_at m 6 d
