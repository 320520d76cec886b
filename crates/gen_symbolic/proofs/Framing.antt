-- The greatest depths and numbers of locals, part by part.
use Rattle.std.proofs.Common.{◌≡◌, ℕ, zero, suc, ◌+◌, ◌-◌, ◌<◌, ◌≤◌, List, [], ◌∷◌, map, length, drop, get_or, Option, Some, None}
use Rattle.std.proofs.Common.{refl, sym, ap, ◌∙◌, arith, max}
use Rattle.jv_core.specs.declared.tree.CoreExpr.{CoreExpr}
use Rattle.jv_core.specs.declared.tree.CoreStmt.{CoreStmt}
use Rattle.jv_core.specs.declared.tree.CoreGroup.{CoreGroup, out-CoreGroup}
use Rattle.jv_core.specs.Tree.{Stmt, Block, Empty, Local, Assign, If, IfElse, While, Do, Switch, Break, Continue, Return, Print, Eval}
use Rattle.jv_core.specs.Tree.{Stmts, NoStmt, Then, Declare, Groups, NoGroup, Group, Program, Method}
use Rattle.jv_core.specs.View.{expr_of, exprs_of, stmt_of, stmts_of, group_of, groups_of, before}
use Rattle.std.proofs.Common.{true, false}
use Rattle.std.proofs.lemmas.Bool.{false≢true}
use Rattle.std.proofs.lemmas.List.{length-reverse}
use Rattle.jv_core.specs.Tree.{Expr, Null}
use Rattle.jv_core.specs.Numbering.{numbers_from}
use Rattle.gen_rules.specs.Locals.{first_local}
use Rattle.gen_rules.specs.Templates.{compared, RightAlone}
use Rattle.gen_expressions.specs.Held.{is_null}
use Rattle.gen_rules.specs.Frames.{Depths, comparison_depths, depths_by_jumps, max_locals}
use Rattle.gen_rules.specs.Frames.{depths, depth_of_arguments, depth_of, depth_of_all, depth_of_groups, locals_of, locals_of_all}
use Rattle.gen_rules.specs.Frames.{locals_of_groups}
use Rattle.gen_symbolic.specs.inner.Held.{taken_behind}
use Rattle.gen_expressions.proofs.Loops.{drop_at, drop_done}
use Rattle.gen_symbolic.proofs.Loops.{group_of-is}

max_parts : (a b c : ℕ) → max a (max b c) ≡ max (max b a) c
max_parts a b c = omega arith

max_none : (a : ℕ) → max a 0 ≡ a
max_none a = omega arith

module _ (p : Program) (m : Method) where
  pub argument_depth : (es : List CoreExpr) (i j : ℕ) (e : CoreExpr) (v deep old new : ℕ) → j + 1 ≡ i → i ≤ length es → e ≡ get_or es j e →
      v ≡ (depths p m (expr_of e)).value → old ≡ depth_of_arguments p m (exprs_of (map expr_of (drop i es))) → deep ≡ suc old →
      new ≡ max v deep →
      new ≡ depth_of_arguments p m (exprs_of (map expr_of (drop j es)))
  argument_depth es i j e v deep old new ej le is ev eo ed en =
      en ∙ ap (λ x. max x deep) ev
      ∙ ap (max (depths p m (expr_of e)).value)
      (ed ∙ ap suc (eo ∙ ap (λ k. depth_of_arguments p m (exprs_of (map expr_of (drop k es)))) (sym ej)))
      ∙ sym (ap (λ (ys : List CoreExpr). depth_of_arguments p m (exprs_of (map expr_of ys))) (drop_at es j e (omega (arith, ej, le)) is))

  depth_before : (s : Stmt) (more : Stmts) → depth_of_all p m (before s more) ≡ max (depth_of p m s) (depth_of_all p m more)
  depth_before (Block q body end) more = refl
  depth_before (Empty q) more = refl
  depth_before (Local q k e) more = refl
  depth_before (Assign q x e) more = refl
  depth_before (If q c s) more = refl
  depth_before (IfElse q c s r) more = refl
  depth_before (While q n c s) more = refl
  depth_before (Do q n s c) more = refl
  depth_before (Switch q e gs end) more = refl
  depth_before (Break q n) more = refl
  depth_before (Continue q n) more = refl
  depth_before (Return q e) more = refl
  depth_before (Print q e) more = refl
  depth_before (Eval q e) more = refl

  module _ (xs : List CoreStmt) (i old total : ℕ) (h : max old (depth_of_all p m (stmts_of (map stmt_of (drop i xs)))) ≡ total) where
    pub depth_more : (x : CoreStmt) (next new : ℕ) → i < length xs → x ≡ get_or xs i x → next ≡ depth_of p m (stmt_of x) →
        new ≡ max next old →
        max new (depth_of_all p m (stmts_of (map stmt_of (drop (i + 1) xs)))) ≡ total
    depth_more x next new within is en e =
        let more = stmts_of (map stmt_of (drop (i + 1) xs)) in
        ap (λ n. max n (depth_of_all p m more)) (e ∙ ap (λ n. max n old) en) ∙
        sym (max_parts old (depth_of p m (stmt_of x)) (depth_of_all p m more))
        ∙ sym (ap (max old) (ap (λ (ys : List CoreStmt). depth_of_all p m (stmts_of (map stmt_of ys))) (drop_at xs i x within is) ∙
        depth_before (stmt_of x) more))
        ∙ h

    pub depth_done : length xs ≤ i → old ≡ total
    depth_done le =
        sym (ap (λ (ys : List CoreStmt). max old (depth_of_all p m (stmts_of (map stmt_of ys)))) (drop_done xs i le) ∙ max_none old) ∙ h

  module _ (gs : List CoreGroup) (i old total : ℕ) (h : max old (depth_of_groups p m (groups_of (map group_of (drop i gs)))) ≡ total) where
    pub group_depth_more : (g : CoreGroup) (body : List CoreStmt) (next new : ℕ) → i < length gs → g ≡ get_or gs i g →
        body ≡ (out-CoreGroup g).body.items → next ≡ depth_of_all p m (stmts_of (map stmt_of body)) → new ≡ max next old →
        max new (depth_of_groups p m (groups_of (map group_of (drop (i + 1) gs)))) ≡ total
    group_depth_more g body next new within is eb en e =
        let more = groups_of (map group_of (drop (i + 1) gs)) in
        let first = depth_of_all p m (stmts_of (map stmt_of (out-CoreGroup g).body.items)) in
        ap (λ n. max n (depth_of_groups p m more))
        (e ∙ ap (λ n. max n old) (en ∙ ap (λ (ys : List CoreStmt). depth_of_all p m (stmts_of (map stmt_of ys))) eb))
        ∙ sym (max_parts old first (depth_of_groups p m more))
        ∙ sym (ap (max old) (ap (λ (ys : List CoreGroup). depth_of_groups p m (groups_of (map group_of ys))) (drop_at gs i g within is)
        ∙ ap (λ o. depth_of_groups p m (groups_of (o ∷ map group_of (drop (i + 1) gs)))) (group_of-is g)))
        ∙ h

    pub group_depth_done : length gs ≤ i → old ≡ total
    group_depth_done le =
        sym (ap (λ (ys : List CoreGroup). max old (depth_of_groups p m (groups_of (map group_of ys)))) (drop_done gs i le) ∙ max_none old) ∙
        h

-- locals
at_least : (n : ℕ) (ss : Stmts) → n ≤ locals_of_all n ss
at_least n NoStmt = omega arith
at_least n (Then s more) = let k = at_least n more in omega (arith, k)
at_least n (Declare q k e more) = let j = at_least (suc n) more in omega (arith, j)

taken_before : (n : ℕ) (s : Stmt) (more : Stmts) → locals_of_all n (before s more) ≡ max (locals_of n s)
    (locals_of_all (taken_behind n s) more)
taken_before n (Local q k e) more = let j = at_least (suc n) more in omega (arith, j)
taken_before n (Block q body end) more = refl
taken_before n (Empty q) more = refl
taken_before n (Assign q x e) more = refl
taken_before n (If q c s) more = refl
taken_before n (IfElse q c s r) more = refl
taken_before n (While q l c s) more = refl
taken_before n (Do q l s c) more = refl
taken_before n (Switch q e gs end) more = refl
taken_before n (Break q l) more = refl
taken_before n (Continue q l) more = refl
taken_before n (Return q e) more = refl
taken_before n (Print q e) more = refl
taken_before n (Eval q e) more = refl

taken_low : (n next old : ℕ) (s : Stmt) → n ≤ old → next ≡ locals_of n s → taken_behind n s ≤ max next old
taken_low n next old (Local q k e) low is = omega (arith, is)
taken_low n next old (Block q body end) low is = omega (arith, low)
taken_low n next old (Empty q) low is = omega (arith, low)
taken_low n next old (Assign q x e) low is = omega (arith, low)
taken_low n next old (If q c s) low is = omega (arith, low)
taken_low n next old (IfElse q c s r) low is = omega (arith, low)
taken_low n next old (While q l c s) low is = omega (arith, low)
taken_low n next old (Do q l s c) low is = omega (arith, low)
taken_low n next old (Switch q e gs end) low is = omega (arith, low)
taken_low n next old (Break q l) low is = omega (arith, low)
taken_low n next old (Continue q l) low is = omega (arith, low)
taken_low n next old (Return q e) low is = omega (arith, low)
taken_low n next old (Print q e) low is = omega (arith, low)
taken_low n next old (Eval q e) low is = omega (arith, low)

-- the most so far, and so many for what is left
pub record AreTaken (most taken : ℕ) (rest all : ℕ) : Type 0 where
  pub left : max most rest ≡ all
  pub low : taken ≤ most

pub taken_start : (n : ℕ) (ss : Stmts) → AreTaken n n (locals_of_all n ss) (locals_of_all n ss)
taken_start n ss = record { left = (let k = at_least n ss in omega (arith, k)); low = omega arith }

module _ (xs : List CoreStmt) (i taken old total : ℕ) (h : AreTaken old taken (locals_of_all taken (stmts_of (map stmt_of (drop i xs))))
    total) where
  pub taken_more : (x : CoreStmt) (next new taken' : ℕ) → i < length xs → x ≡ get_or xs i x → next ≡ locals_of taken (stmt_of x) →
      new ≡ max next old → taken' ≡ taken_behind taken (stmt_of x) →
      AreTaken new taken' (locals_of_all taken' (stmts_of (map stmt_of (drop (i + 1) xs)))) total
  taken_more x next new taken' within is en e et =
      let more = stmts_of (map stmt_of (drop (i + 1) xs)) in
      let low = taken_low taken next old (stmt_of x) h.low en in
      record {
        left =
            ap (λ t. max new (locals_of_all t more)) et
            ∙ ap (λ n. max n (locals_of_all (taken_behind taken (stmt_of x)) more)) (e ∙ ap (λ n. max n old) en)
            ∙ sym (max_parts old (locals_of taken (stmt_of x)) (locals_of_all (taken_behind taken (stmt_of x)) more))
            ∙ sym (ap (max old) (ap (λ (ys : List CoreStmt). locals_of_all taken (stmts_of (map stmt_of ys))) (drop_at xs i x within is)
            ∙ taken_before taken (stmt_of x) more))
            ∙ h.left;
        low = omega (arith, low, e, et);
      }

  pub taken_done : length xs ≤ i → old ≡ total
  taken_done le =
      let low = h.low in
      let end : max old taken ≡ old = omega (arith, low) in
      sym (ap (λ (ys : List CoreStmt). max old (locals_of_all taken (stmts_of (map stmt_of ys)))) (drop_done xs i le) ∙ end) ∙ h.left

groups_at_least : (n : ℕ) (gs : Groups) → n ≤ locals_of_groups n gs
groups_at_least n NoGroup = omega arith
groups_at_least n (Group labels body end more) = let k = groups_at_least n more in omega (arith, k)

pub groups_start : (n : ℕ) (gs : Groups) → AreTaken n n (locals_of_groups n gs) (locals_of_groups n gs)
groups_start n gs = record { left = (let k = groups_at_least n gs in omega (arith, k)); low = omega arith }

module _ (gs : List CoreGroup) (i taken old total : ℕ)
    (h : AreTaken old taken (locals_of_groups taken (groups_of (map group_of (drop i gs)))) total) where
  pub group_taken_more : (g : CoreGroup) (body : List CoreStmt) (next new : ℕ) → i < length gs → g ≡ get_or gs i g →
      body ≡ (out-CoreGroup g).body.items → next ≡ locals_of_all taken (stmts_of (map stmt_of body)) → new ≡ max next old →
      AreTaken new taken (locals_of_groups taken (groups_of (map group_of (drop (i + 1) gs)))) total
  group_taken_more g body next new within is eb en e =
      let more = groups_of (map group_of (drop (i + 1) gs)) in
      let first = locals_of_all taken (stmts_of (map stmt_of (out-CoreGroup g).body.items)) in
      let low = h.low in
      record {
        left =
            ap (λ n. max n (locals_of_groups taken more))
            (e ∙ ap (λ n. max n old) (en ∙ ap (λ (ys : List CoreStmt). locals_of_all taken (stmts_of (map stmt_of ys))) eb))
            ∙ sym (max_parts old first (locals_of_groups taken more))
            ∙ sym (ap (max old) (ap (λ (ys : List CoreGroup). locals_of_groups taken (groups_of (map group_of ys)))
            (drop_at gs i g within is)
            ∙ ap (λ o. locals_of_groups taken (groups_of (o ∷ map group_of (drop (i + 1) gs)))) (group_of-is g)))
            ∙ h.left;
        low = omega (arith, low, e);
      }

  pub group_taken_done : length gs ≤ i → old ≡ total
  group_taken_done le =
      let low = h.low in
      let end : max old taken ≡ old = omega (arith, low) in
      sym (ap (λ (ys : List CoreGroup). max old (locals_of_groups taken (groups_of (map group_of ys)))) (drop_done gs i le) ∙ end) ∙ h.left

-- comparisons with `null`
null_alone : (a b : Expr) → is_null b ≡ false → is_null a ≡ true → compared a b ≡ RightAlone
null_alone (Null q) (Null r) h k = absurd (false≢true (sym h))
null_alone (Null q) _ h k = refl
null_alone _ _ h k = absurd (false≢true k)

pub null_left : (a b : Expr) (A B : Depths) → is_null b ≡ false → is_null a ≡ true → depths_by_jumps B.value ≡ comparison_depths
    (compared a b) A B
null_left a b A B h k = ap (λ c. comparison_depths c A B) (sym (null_alone a b h k))

-- the parameters
numbers_long : (k n : ℕ) → length (numbers_from k n) ≡ n
numbers_long k zero = refl
numbers_long k (suc n) = ap suc (numbers_long (suc k) n)

pub frame_is : (m : Method) (n : ℕ) → n ≡ first_local m.kind + m.params → locals_of_all n m.body ≡ max_locals m
frame_is m n is =
    ap (λ k. locals_of_all k m.body)
    (is ∙ ap (λ k. first_local m.kind + k) (sym (length-reverse (numbers_from 0 m.params) ∙ numbers_long 0 m.params)))

pub ruleset argument_depths = (argument_depth)

pub ruleset comparisons = (null_left)

pub ruleset frame = (frame_is)

pub ruleset statement_depths = (depth_more, depth_done, group_depth_more, group_depth_done)

pub ruleset taken = (taken_start, taken_more, taken_done, groups_start, group_taken_more, group_taken_done)
