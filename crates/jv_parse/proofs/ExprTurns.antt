-- The turns of the loops that read expressions.
use Rattle.std.proofs.Common.{◌≡◌, ℕ, zero, suc, ◌-◌, ◌<◌, List, [], ◌∷◌, ◌++◌, length, true, false, Option, Some, None, refl, sym, ap, ◌∙◌}
use Rattle.std.proofs.Common.{arith}
use Rattle.std.specs.Prelude.{max}
use Rattle.mg_read.specs.Reader.{◌>>=◌, all_of}
use Rattle.mg_read.proofs.Loop.{Left, Left-start, Left-none, with_front}
use Rattle.mg_text.specs.declared.place.Place.{Place}
use Rattle.jv_tree.specs.declared.token.Sign.TheVariants as signs
use Rattle.jv_tree.specs.declared.token.Token.{Token}
use Rattle.jv_tree.specs.Source.{Expr}
use Rattle.jv_tree.specs.Depth.{depth, depth_of_args}
use Rattle.jv_tree.specs.Expressions.{IsInner}
use Rattle.jv_tree.specs.View.{exprs_of}
use Rattle.jv_grammar.specs.Base.{sign_at, is_sign, name_at}
use Rattle.jv_grammar.specs.Exprs.{Reads, next_arg_with, args_with, closed_args_with, arguments_with, closed_with, primary_at, tail_at}
use Rattle.jv_grammar.specs.Exprs.{post_with, post_at, is_op, unary_at, joined_at, binary_with, binary_at, inner_at, expr_at, arguments_at}
use Rattle.jv_grammar.specs.Exprs.{closed_at, new_with}
use Rattle.jv_grammar.proofs.Args.{next_shorter}
use Rattle.jv_grammar.proofs.Posts.{tail_shorter}
use Rattle.jv_grammar.proofs.Chains.{step_shorter, binary_exact}
use Rattle.jv_grammar.proofs.Exprs.{inner_reading}
use Rattle.jv_parse.specs.declared.halt.Halt.{Halt}
use Rattle.jv_parse.specs.declared.halt.Halt.TheVariants as halts
use Rattle.jv_parse.specs.inner.Gives.{Fails}
use Rattle.jv_parse.proofs.Turns.{Growing, Growing-start}

pub Left-fails : {T A : Type 0} (go : List T → _) (f : List T → Option (A × List T)) (err : Halt) (front : List A) (ts : List T)
    (total : Option (List A × List T)) → go ts ≡ true → Fails err (f ts) → Left go f front ts total → Fails err total
Left-fails go f halts.Memory front ts total goes h l = tt
Left-fails go f (halts.Syntax left) front ts total goes h l = Left-none go f front ts total goes h l

-- ---- what stands behind a first part

pub post_start : (m d : ℕ) (ts : List Token) (first : Expr) (rest : List Token) → primary_at m d ts ≡ Some (first, rest) →
    Growing (is_sign signs.Dot) (tail_at m d) first rest (post_at m d ts)
unfolding post_at post_with primary_at tail_at
post_start m d ts first rest h = rw h (Growing-start (is_sign signs.Dot) (tail_at m d) first rest)

pub post_fails : (e : Halt) (m d : ℕ) (ts : List Token) → Fails e (primary_at m d ts) → Fails e (post_at m d ts)
unfolding post_at post_with primary_at
post_fails halts.Memory m d ts h = tt
post_fails (halts.Syntax left) m d ts h = rw h refl

pub tail_at_shorter : (m d : ℕ) (e : Expr) (ts : List Token) (x : Expr) (us : List Token) → tail_at m d e ts ≡ Some (x, us) →
    length us < length ts
unfolding tail_at
tail_at_shorter m d e ts x us h = tail_shorter m (inner_at m) (IsInner m) (inner_reading m) d e ts (x, us) h

pub chain_start : (m l d : ℕ) (ts : List Token) (first : Expr) (rest : List Token) → 0 < l → binary_at m (l - 1) d ts ≡ Some (first, rest)
    → Growing (is_op (l - 1)) (joined_at m (l - 1) d) first rest (binary_at m l d ts)
unfolding binary_at binary_with joined_at
chain_start m zero d ts first rest some h = absurd (omega arith)
chain_start m (suc k) d ts first rest some h =
    let e : suc k - 1 ≡ k = omega arith in
    let reads : binary_with m (inner_at m) k d ts ≡ Some (first, rest) = ap (λ (j : ℕ). binary_with m (inner_at m) j d ts) (sym e) ∙ h in
    rw e (rw reads (Growing-start (is_op k) (joined_at m k d) first rest))

pub chain_fails : (e : Halt) (m l d : ℕ) (ts : List Token) → 0 < l → Fails e (binary_at m (l - 1) d ts) → Fails e (binary_at m l d ts)
unfolding binary_at binary_with
chain_fails halts.Memory m l d ts some h = tt
chain_fails (halts.Syntax left) m zero d ts some h = absurd (omega arith)
chain_fails (halts.Syntax left) m (suc k) d ts some h =
    let e : suc k - 1 ≡ k = omega arith in
    let reads : binary_with m (inner_at m) k d ts ≡ None = ap (λ (j : ℕ). binary_with m (inner_at m) j d ts) (sym e) ∙ h in
    rw reads refl

pub chain_zero : (m d : ℕ) (ts : List Token) → binary_at m 0 d ts ≡ unary_at m d ts
unfolding binary_at binary_with unary_at
chain_zero m d ts = refl

pub joined_at_shorter : (m k d : ℕ) (e : Expr) (ts : List Token) (x : Expr) (us : List Token) → joined_at m k d e ts ≡ Some (x, us) →
    length us < length ts
unfolding joined_at
joined_at_shorter m k d e ts x us h = step_shorter k (binary_with m (inner_at m) k) _
    (binary_exact m (inner_at m) (IsInner m) (inner_reading m) k) d e ts (x, us) h

pub chain_is : (m l d : ℕ) (ts : List Token) → l ≡ 0 → binary_at m l d ts ≡ unary_at m d ts
chain_is m l d ts h = ap (λ (k : ℕ). binary_at m k d ts) h ∙ chain_zero m d ts

-- ---- arguments

pub inner_is : (m d : ℕ) → 0 < m → inner_at m d ≡ expr_at (m - 1) d
unfolding inner_at expr_at binary_at
inner_is zero d h = absurd (omega arith)
inner_is (suc m) d h = let e : suc m - 1 ≡ m = omega arith in rw e refl

pub next_arg_is : (m d : ℕ) (p : Place) (ts us : List Token) → sign_at signs.Comma ts ≡ Some (p, us) →
    next_arg_with (expr_at m d) ts ≡ binary_at m 6 d us
unfolding next_arg_with expr_at
next_arg_is m d p ts us h = rw h refl

pub arg_shorter : (m d : ℕ) (ts : List Token) (x : Expr) (us : List Token) → next_arg_with (expr_at m d) ts ≡ Some (x, us) →
    length us < length ts
unfolding inner_at expr_at binary_at
arg_shorter m d ts x us h = next_shorter (inner_at (suc m) d) (IsInner (suc m)) d (inner_reading (suc m) d) ts (x, us) h

pub args_start : (m d : ℕ) (ts : List Token) (x : Expr) (us : List Token) → binary_at m 6 d ts ≡ Some (x, us)
    → Left (is_sign signs.Comma) (next_arg_with (expr_at m d)) (x ∷ []) us (args_with (expr_at m d) ts)
unfolding args_with expr_at
args_start m d ts x us h =
    rw h (Left-start (is_sign signs.Comma) (next_arg_with (expr_at m d)) (x ∷ []) us
    (with_front (x ∷ []) (all_of (is_sign signs.Comma) (next_arg_with (expr_at m d)) us)) refl)

pub args_fails : (e : Halt) (m d : ℕ) (ts : List Token) → Fails e (binary_at m 6 d ts) → Fails e (args_with (expr_at m d) ts)
unfolding args_with expr_at
args_fails halts.Memory m d ts h = tt
args_fails (halts.Syntax left) m d ts h = rw h refl

pub depth_push : (xs : List Expr) (x : Expr) → depth_of_args (exprs_of (xs ++ x ∷ [])) ≡ max (depth_of_args (exprs_of xs)) (depth x)
depth_push [] x = omega arith
depth_push (y ∷ xs) x = omega (arith, depth_push xs x)

no_arguments : (d : ℕ) (ts : List Token) → arguments_at 0 d ts ≡ None
unfolding arguments_at arguments_with
no_arguments d ts = refl

pub arguments_zero : (m d : ℕ) (ts : List Token) → m ≡ 0 → arguments_at m d ts ≡ None
arguments_zero m d ts h = ap (λ (k : ℕ). arguments_at k d ts) h ∙ no_arguments d ts

-- arguments, where a parenthesis may be opened
arguments_are : (m d : ℕ) (ts : List Token) → 0 < m →
    arguments_at m d ts ≡ (sign_at signs.OpenParen ts >>= λ a. closed_args_with (expr_at (m - 1) d) a.1)
unfolding arguments_at arguments_with
arguments_are zero d ts some = absurd (omega arith)
arguments_are (suc m) d ts some = ap (λ (f : Reads). sign_at signs.OpenParen ts >>= λ a. closed_args_with f a.1) (inner_is (suc m) d some)

pub arguments_unopened : (e : Halt) (m d : ℕ) (ts : List Token) → 0 < m → Fails e (sign_at signs.OpenParen ts) →
    Fails e (arguments_at m d ts)
arguments_unopened halts.Memory m d ts some h = tt
arguments_unopened (halts.Syntax left) m d ts some h = arguments_are m d ts some ∙ rw h refl

pub arguments_empty : (m d : ℕ) (ts : List Token) (a c : Place) (us vs : List Token) → 0 < m → sign_at signs.OpenParen ts ≡ Some (a, us) →
    is_sign signs.CloseParen us ≡ true
    → sign_at signs.CloseParen us ≡ Some (c, vs) → arguments_at m d ts ≡ Some ([], vs)
unfolding closed_args_with
arguments_empty m d ts a c us vs some opens closes h = arguments_are m d ts some ∙ rw (opens, closes, h) refl

pub arguments_unread : (e : Halt) (m d : ℕ) (ts : List Token) (a : Place) (us : List Token) → 0 < m →
    sign_at signs.OpenParen ts ≡ Some (a, us) → is_sign signs.CloseParen us ≡ false
    → Fails e (args_with (expr_at (m - 1) d) us) → Fails e (arguments_at m d ts)
unfolding closed_args_with
arguments_unread halts.Memory m d ts a us some opens stays h = tt
arguments_unread (halts.Syntax left) m d ts a us some opens stays h = arguments_are m d ts some ∙ rw (opens, stays, h) refl

pub arguments_unclosed : (e : Halt) (m d : ℕ) (ts : List Token) (a : Place) (us vs : List Token) (xs : List Expr) → 0 < m →
    sign_at signs.OpenParen ts ≡ Some (a, us) → is_sign signs.CloseParen us ≡ false
    → args_with (expr_at (m - 1) d) us ≡ Some (xs, vs) → Fails e (sign_at signs.CloseParen vs) → Fails e (arguments_at m d ts)
unfolding closed_args_with
arguments_unclosed halts.Memory m d ts a us vs xs some opens stays reads h = tt
arguments_unclosed (halts.Syntax left) m d ts a us vs xs some opens stays reads h = arguments_are m d ts some ∙ rw (opens, stays, reads, h)
    refl

pub arguments_done : (m d : ℕ) (ts : List Token) (a c : Place) (us vs ws : List Token) (xs : List Expr) → 0 < m →
    sign_at signs.OpenParen ts ≡ Some (a, us) → is_sign signs.CloseParen us ≡ false
    → args_with (expr_at (m - 1) d) us ≡ Some (xs, vs) → sign_at signs.CloseParen vs ≡ Some (c, ws) → arguments_at m d ts ≡ Some (xs, ws)
unfolding closed_args_with
arguments_done m d ts a c us vs ws xs some opens stays reads h = arguments_are m d ts some ∙ rw (opens, stays, reads, h) refl

-- ---- an expression in parentheses

no_closed : (d : ℕ) (ts : List Token) → closed_at 0 d ts ≡ None
unfolding closed_at closed_with inner_at
no_closed d ts = refl

pub closed_zero : (m d : ℕ) (ts : List Token) → m ≡ 0 → closed_at m d ts ≡ None
closed_zero m d ts h = ap (λ (k : ℕ). closed_at k d ts) h ∙ no_closed d ts

closed_is : (m d : ℕ) (ts : List Token) → 0 < m → closed_at m d ts ≡ closed_with (λ us. binary_at (m - 1) 6 d us) ts
unfolding closed_at expr_at
closed_is m d ts some = ap (λ (f : Reads). closed_with f ts) (inner_is m d some)

pub closed_unread : (e : Halt) (m d : ℕ) (ts : List Token) → 0 < m → Fails e (binary_at (m - 1) 6 d ts) → Fails e (closed_at m d ts)
unfolding closed_with
closed_unread halts.Memory m d ts some h = tt
closed_unread (halts.Syntax left) m d ts some h = closed_is m d ts some ∙ rw h refl

pub closed_unclosed : (e : Halt) (m d : ℕ) (ts us : List Token) (x : Expr) → 0 < m → binary_at (m - 1) 6 d ts ≡ Some (x, us) →
    Fails e (sign_at signs.CloseParen us) → Fails e (closed_at m d ts)
unfolding closed_with
closed_unclosed halts.Memory m d ts us x some reads h = tt
closed_unclosed (halts.Syntax left) m d ts us x some reads h = closed_is m d ts some ∙ rw (reads, h) refl

pub closed_done : (m d : ℕ) (ts us vs : List Token) (x : Expr) (c : Place) → 0 < m → binary_at (m - 1) 6 d ts ≡ Some (x, us) →
    sign_at signs.CloseParen us ≡ Some (c, vs) → closed_at m d ts ≡ Some (x, vs)
unfolding closed_with
closed_done m d ts us vs x c some reads h = closed_is m d ts some ∙ rw (reads, h) refl

-- ---- an object that is made

pub new_unnamed : (e : Halt) (m : ℕ) (p : Place) (ts : List Token) → Fails e (name_at ts) → Fails e (new_with m p ts)
unfolding new_with
new_unnamed halts.Memory m p ts h = tt
new_unnamed (halts.Syntax left) zero p ts h = refl
new_unnamed (halts.Syntax left) (suc m) p ts h = rw h refl
