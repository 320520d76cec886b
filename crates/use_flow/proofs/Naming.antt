-- Which methods are named, part by part.
use Rattle.std.proofs.Common.{◌≡◌, ℕ, ◌+◌, ◌<◌, ◌≤◌, List, [], ◌∷◌, ◌++◌, length, get_or, drop, map, refl, sym, ap, ◌∙◌, append_assoc}
use Rattle.std.proofs.Common.{◌⊎◌, ⊎_elim}
use Rattle.std.specs.declared.boxed.Box.{Box}
use Rattle.std.specs.declared.alloc.Global.{Global}
use Rattle.std.proofs.lemmas.Grind.{common_steps}
use Rattle.std.proofs.lemmas.List.{at_drop_more, at_drop_all}
use Rattle.mg_text.specs.Row.{Row}
use Rattle.mg_text.specs.declared.place.Place.{Place}
use Rattle.jv_tree.specs.declared.tree.Op.{Op}
use Rattle.jv_core.specs.declared.tree.CoreVar.{CoreVar}
use Rattle.jv_core.specs.declared.tree.CoreExpr.{CoreExpr}
use Rattle.jv_core.specs.declared.tree.CoreExprKind.{CoreExprKind}
use Rattle.jv_core.specs.declared.tree.CoreExprKind.TheVariants as E
use Rattle.jv_core.specs.declared.tree.CoreStmt.{CoreStmt}
use Rattle.jv_core.specs.Tree.{Expr, Neg, Not, Binary, Equals, Concat, Protocol, Helper, Static}
use Rattle.jv_core.specs.declared.tree.CoreGroup.{CoreGroup, out-CoreGroup, fold_out-CoreGroup}
use Rattle.jv_core.specs.Tree.{Stmt, Block, Empty, Local, Assign, If, IfElse, While, Do, Switch, Break, Continue, Return, Print, Eval}
use Rattle.jv_core.specs.Tree.{Stmts}
use Rattle.jv_core.specs.View.{expr_of, exprs_of, stmt_of, stmts_of, group_of, groups_of, before, OneGroup, stmt_layer, group_layer}
use Rattle.jv_core.specs.View.{placed_stmt_layer, kind_of}
use Rattle.jv_core.proofs.ViewLaws.{views, expr_of-is, kind-Neg, kind-Not, kind-Binary, kind-Equals, kind-Concat, kind-Protocol}
use Rattle.jv_core.proofs.ViewLaws.{kind-Helper, kind-Static}
use Rattle.use_rules.specs.Reads.{calls_in, calls_in_all, named_in, named_in_all, named_in_groups}
use Rattle.use_elements.proofs.Rests.{append_nil}

-- a turn takes the first of what is left, and the last turn leaves nothing
module _ {A : Type 0} (rest : List A → List ℕ) (xs : List A) (i : ℕ) (ns total : List ℕ) (h : ns ++ rest (drop i xs) ≡ total) where
  next : (x : A) (first new : List ℕ) → i < length xs → x ≡ get_or xs i x → rest (x ∷ drop (i + 1) xs) ≡ first ++ rest (drop (i + 1) xs) →
      new ≡ ns ++ first →
      new ++ rest (drop (i + 1) xs) ≡ total
  next x first new within is splits e =
      ap (λ r. r ++ rest (drop (i + 1) xs)) e ∙ append_assoc ns first (rest (drop (i + 1) xs))
      ∙ ap (λ r. ns ++ r) (sym (at_drop_more rest xs i x within ∙ ap (λ y. rest (y ∷ drop (i + 1) xs)) (sym is) ∙ splits)) ∙ h

  done : length xs ≤ i → rest [] ≡ [] → ns ≡ total
  done le ends = sym (ap (λ r. ns ++ r) (at_drop_all rest xs i le ∙ ends) ∙ append_nil ns) ∙ h

module _ (es : List CoreExpr) (i : ℕ) (ns total : List ℕ) (h : ns ++ calls_in_all (exprs_of (map expr_of (drop i es))) ≡ total) where
  pub argument_named : (e : CoreExpr) (new : List ℕ) → i < length es → e ≡ get_or es i e → new ≡ ns ++ calls_in (expr_of e) →
      new ++ calls_in_all (exprs_of (map expr_of (drop (i + 1) es))) ≡ total
  argument_named e new within is =
      next (λ (ys : List CoreExpr). calls_in_all (exprs_of (map expr_of ys))) es i ns total h e (calls_in (expr_of e)) new within is refl

  pub arguments_named : length es ≤ i → ns ≡ total
  arguments_named le = done (λ (ys : List CoreExpr). calls_in_all (exprs_of (map expr_of ys))) es i ns total h le refl

pub ruleset arguments = (argument_named, arguments_named)

named_before : (s : Stmt) (more : Stmts) → named_in_all (before s more) ≡ named_in s ++ named_in_all more
named_before (Block q body end) more = refl
named_before (Empty q) more = refl
named_before (Local q k e) more = refl
named_before (Assign q x e) more = refl
named_before (If q c s) more = refl
named_before (IfElse q c s r) more = refl
named_before (While q n c s) more = refl
named_before (Do q n s c) more = refl
named_before (Switch q e gs end) more = refl
named_before (Break q n) more = refl
named_before (Continue q n) more = refl
named_before (Return q e) more = refl
named_before (Print q e) more = refl
named_before (Eval q e) more = refl

module _ (ss : List CoreStmt) (i : ℕ) (ns total : List ℕ) (h : ns ++ named_in_all (stmts_of (map stmt_of (drop i ss))) ≡ total) where
  pub statement_named : (s : CoreStmt) (new : List ℕ) → i < length ss → s ≡ get_or ss i s → new ≡ ns ++ named_in (stmt_of s) →
      new ++ named_in_all (stmts_of (map stmt_of (drop (i + 1) ss))) ≡ total
  statement_named s new within is =
      next (λ (ys : List CoreStmt). named_in_all (stmts_of (map stmt_of ys))) ss i ns total h s (named_in (stmt_of s)) new within is
      (named_before (stmt_of s) (stmts_of (map stmt_of (drop (i + 1) ss))))

  pub statements_named : length ss ≤ i → ns ≡ total
  statements_named le = done (λ (ys : List CoreStmt). named_in_all (stmts_of (map stmt_of ys))) ss i ns total h le refl

pub ruleset statements = (statement_named, statements_named)

abbrev one_group : CoreGroup → OneGroup
one_group g = record {
  labels = (out-CoreGroup g).labels.items;
  body = stmts_of (map stmt_of (out-CoreGroup g).body.items);
  end =
      (out-CoreGroup g).end;
}

group_of-is : (g : CoreGroup) → group_of g ≡ one_group g
unfolding stmt_of group_of
group_of-is g = fold_out-CoreGroup (Place → Stmt) OneGroup Stmt stmt_layer group_layer placed_stmt_layer g

module _ (gs : List CoreGroup) (i : ℕ) (ns total : List ℕ) (h : ns ++ named_in_groups (groups_of (map group_of (drop i gs))) ≡ total) where
  pub group_named : (g : CoreGroup) (body : List CoreStmt) (new : List ℕ) → i < length gs → g ≡ get_or gs i g →
      body ≡ (out-CoreGroup g).body.items →
      new ≡ ns ++ named_in_all (stmts_of (map stmt_of body)) →
      new ++ named_in_groups (groups_of (map group_of (drop (i + 1) gs))) ≡ total
  group_named g body new within is eb e =
      next (λ (ys : List CoreGroup). named_in_groups (groups_of (map group_of ys))) gs i ns total h g
      (named_in_all (stmts_of (map stmt_of (out-CoreGroup g).body.items))) new within is
      (ap (λ o. named_in_groups (groups_of (o ∷ map group_of (drop (i + 1) gs)))) (group_of-is g))
      (e ∙ ap (λ (ys : List CoreStmt). ns ++ named_in_all (stmts_of (map stmt_of ys))) eb)

  pub groups_named : length gs ≤ i → ns ≡ total
  groups_named le = done (λ (ys : List CoreGroup). named_in_groups (groups_of (map group_of ys))) gs i ns total h le refl

pub ruleset groups = (group_named, groups_named)

-- one part after the other

pub then_named : (a b c x y : List ℕ) → b ≡ a ++ x → c ≡ b ++ y → c ≡ a ++ (x ++ y)
then_named a b c x y e f = f ∙ ap (λ r. r ++ y) e ∙ append_assoc a x y

pub three_named : (a b c d x y z : List ℕ) → b ≡ a ++ x → c ≡ b ++ y → d ≡ c ++ z → d ≡ a ++ (x ++ (y ++ z))
three_named a b c d x y z e f g = then_named a b d x (y ++ z) e (then_named b c d y z f g)

pub one_named : (a b c : List ℕ) (n : ℕ) (x : List ℕ) → b ≡ a ++ n ∷ [] → c ≡ b ++ x → c ≡ a ++ (n ∷ x)
one_named a b c n x e f = then_named a b c (n ∷ []) x e f

-- Forms, from what the code has behind their parts.

module _ (x : CoreExpr) (a b : List ℕ) where
  calls_as : (k : CoreExprKind) (e : Expr) → x.kind ≡ k → kind_of k x.place ≡ e → b ≡ a ++ calls_in e → b ≡ a ++ calls_in (expr_of x)
  calls_as k e is ek h = h ∙ ap (λ z. a ++ calls_in z) (sym (expr_of-is x ∙ ap (λ (z : CoreExprKind). kind_of z x.place) is ∙ ek))

  pub inner_named : (i : Box CoreExpr Global) (y : CoreExpr) → y ≡ i.value → (x.kind ≡ E.Neg i) ⊎ (x.kind ≡ E.Not i) →
      b ≡ a ++ calls_in (expr_of y) → b ≡ a ++ calls_in (expr_of x)
  inner_named i y ey form h =
      let e = h ∙ ap (λ (z : CoreExpr). a ++ calls_in (expr_of z)) ey in
      ⊎_elim (λ is. calls_as (E.Neg i) (Neg x.place (expr_of i.value)) is (kind-Neg i x.place) e)
      (λ is. calls_as (E.Not i) (Not x.place (expr_of i.value)) is (kind-Not i x.place) e) form

  pub both_named : (l r : Box CoreExpr Global) (y z : CoreExpr) → y ≡ l.value → z ≡ r.value →
      ((o : Op) × x.kind ≡ E.Binary o l r) ⊎ ((x.kind ≡ E.Equals l r) ⊎ (x.kind ≡ E.Concat l r)) →
      b ≡ a ++ (calls_in (expr_of y) ++ calls_in (expr_of z)) → b ≡ a ++ calls_in (expr_of x)
  both_named l r y z ey ez form h =
      let e = h ∙ ap (λ (u : CoreExpr). a ++ (calls_in (expr_of u) ++ calls_in (expr_of z))) ey
      ∙ ap (λ (u : CoreExpr). a ++ (calls_in (expr_of l.value) ++ calls_in (expr_of u))) ez in
      ⊎_elim (λ p. calls_as (E.Binary p.0 l r) (Binary x.place p.0 (expr_of l.value) (expr_of r.value)) p.1 (kind-Binary p.0 l r x.place) e)
      (⊎_elim (λ is. calls_as (E.Equals l r) (Equals x.place (expr_of l.value) (expr_of r.value)) is (kind-Equals l r x.place) e)
      (λ is. calls_as (E.Concat l r) (Concat x.place (expr_of l.value) (expr_of r.value)) is (kind-Concat l r x.place) e)) form

  pub call_named : (m : ℕ) (args : Row CoreExpr) (given : List CoreExpr) (c : List ℕ) → given ≡ args.items →
      ((y : CoreVar) × x.kind ≡ E.Protocol y m args) ⊎ ((x.kind ≡ E.Helper m args) ⊎ (x.kind ≡ E.Static m args)) →
      c ≡ a ++ m ∷ [] → b ≡ c ++ calls_in_all (exprs_of (map expr_of given)) → b ≡ a ++ calls_in (expr_of x)
  call_named m args given c eg form first h =
      let all = exprs_of (map expr_of args.items) in
      let e = then_named a c b (m ∷ []) (calls_in_all all) first
      (h ∙ ap (λ (ys : List CoreExpr). c ++ calls_in_all (exprs_of (map expr_of ys))) eg) in
      ⊎_elim (λ p. calls_as (E.Protocol p.0 m args) (Protocol x.place p.0 m all) p.1 (kind-Protocol p.0 m args x.place) e)
      (⊎_elim (λ is. calls_as (E.Helper m args) (Helper x.place m all) is (kind-Helper m args x.place) e)
      (λ is. calls_as (E.Static m args) (Static x.place m all) is (kind-Static m args x.place) e)) form

pub ruleset naming = (common_steps, views, then_named, three_named, one_named, append_nil)
