-- The uses of code, part by part.
use Rattle.std.proofs.Common.{◌≡◌, ℕ, ◌+◌, ◌<◌, ◌≤◌, List, [], ◌∷◌, ◌++◌, length, get_or, drop, map, refl, sym, ap, ◌∙◌, append_assoc}
use Rattle.std.proofs.Common.{◌⊎◌, ⊎_elim}
use Rattle.std.specs.declared.boxed.Box.{Box}
use Rattle.std.specs.declared.alloc.Global.{Global}
use Rattle.std.proofs.lemmas.Grind.{common_steps}
use Rattle.std.proofs.lemmas.List.{at_drop_more, at_drop_all, append-nil}
use Rattle.mg_text.specs.Row.{Row}
use Rattle.mg_text.specs.declared.place.Place.{Place}
use Rattle.jv_tree.specs.declared.tree.Op.{Op}
use Rattle.jv_tree.specs.declared.built_in.SessionCall.{SessionCall}
use Rattle.jv_core.specs.declared.tree.CoreVar.{CoreVar}
use Rattle.jv_core.specs.declared.tree.CoreExpr.{CoreExpr}
use Rattle.jv_core.specs.declared.tree.CoreExprKind.{CoreExprKind}
use Rattle.jv_core.specs.declared.tree.CoreExprKind.TheVariants as E
use Rattle.jv_core.specs.declared.tree.CoreStmt.{CoreStmt}
use Rattle.jv_core.specs.Tree.{Expr, Neg, Not, Binary, Equals, Concat, Protocol, Helper, Static, Session}
use Rattle.jv_core.specs.declared.tree.CoreGroup.{CoreGroup, out-CoreGroup, fold_out-CoreGroup}
use Rattle.jv_core.specs.Tree.{Stmt, Block, Empty, Local, Assign, If, IfElse, While, Do, Switch, Break, Continue, Return, Print, Eval}
use Rattle.jv_core.specs.Tree.{Stmts}
use Rattle.jv_core.specs.View.{expr_of, exprs_of, stmt_of, stmts_of, group_of, groups_of, before, OneGroup, stmt_layer, group_layer}
use Rattle.jv_core.specs.View.{placed_stmt_layer, kind_of}
use Rattle.jv_core.proofs.ViewLaws.{views, expr_of-is, kind-Neg, kind-Not, kind-Binary, kind-Equals, kind-Concat, kind-Protocol}
use Rattle.jv_core.proofs.ViewLaws.{kind-Helper, kind-Static, kind-Session}
use Rattle.fit_uses.specs.declared.usage.Use.{Use}
use Rattle.fit_uses.specs.declared.usage.Use.TheVariants.{Talks}
use Rattle.fit_uses.specs.Uses.{uses_of, uses_of_all, uses_in, uses_in_all, uses_in_groups}

-- a turn takes the first of what is left, and the last turn leaves nothing
module _ {A : Type 0} (rest : List A → List Use) (xs : List A) (i : ℕ) (ns total : List Use) (h : ns ++ rest (drop i xs) ≡ total) where
  next : (x : A) (first new : List Use) → i < length xs → x ≡ get_or xs i x → rest (x ∷ drop (i + 1) xs) ≡ first ++ rest (drop (i + 1) xs) →
      new ≡ ns ++ first →
      new ++ rest (drop (i + 1) xs) ≡ total
  next x first new within is splits e =
      ap (λ r. r ++ rest (drop (i + 1) xs)) e ∙ append_assoc ns first (rest (drop (i + 1) xs))
      ∙ ap (λ r. ns ++ r) (sym (at_drop_more rest xs i x within ∙ ap (λ y. rest (y ∷ drop (i + 1) xs)) (sym is) ∙ splits)) ∙ h

  done : length xs ≤ i → rest [] ≡ [] → ns ≡ total
  done le ends = sym (ap (λ r. ns ++ r) (at_drop_all rest xs i le ∙ ends) ∙ append-nil ns) ∙ h

module _ (es : List CoreExpr) (i : ℕ) (ns total : List Use) (h : ns ++ uses_of_all (exprs_of (map expr_of (drop i es))) ≡ total) where
  pub argument_used : (e : CoreExpr) (new : List Use) → i < length es → e ≡ get_or es i e → new ≡ ns ++ uses_of (expr_of e) →
      new ++ uses_of_all (exprs_of (map expr_of (drop (i + 1) es))) ≡ total
  argument_used e new within is =
      next (λ (ys : List CoreExpr). uses_of_all (exprs_of (map expr_of ys))) es i ns total h e (uses_of (expr_of e)) new within is refl

  pub arguments_used : length es ≤ i → ns ≡ total
  arguments_used le = done (λ (ys : List CoreExpr). uses_of_all (exprs_of (map expr_of ys))) es i ns total h le refl

pub ruleset arguments = (argument_used, arguments_used)

pub used_before : (s : Stmt) (more : Stmts) → uses_in_all (before s more) ≡ uses_in s ++ uses_in_all more
used_before (Block q body end) more = refl
used_before (Empty q) more = refl
used_before (Local q k e) more = refl
used_before (Assign q x e) more = refl
used_before (If q c s) more = refl
used_before (IfElse q c s r) more = refl
used_before (While q n c s) more = refl
used_before (Do q n s c) more = refl
used_before (Switch q e gs end) more = refl
used_before (Break q n) more = refl
used_before (Continue q n) more = refl
used_before (Return q e) more = refl
used_before (Print q e) more = refl
used_before (Eval q e) more = refl

module _ (ss : List CoreStmt) (i : ℕ) (ns total : List Use) (h : ns ++ uses_in_all (stmts_of (map stmt_of (drop i ss))) ≡ total) where
  pub statement_used : (s : CoreStmt) (new : List Use) → i < length ss → s ≡ get_or ss i s → new ≡ ns ++ uses_in (stmt_of s) →
      new ++ uses_in_all (stmts_of (map stmt_of (drop (i + 1) ss))) ≡ total
  statement_used s new within is =
      next (λ (ys : List CoreStmt). uses_in_all (stmts_of (map stmt_of ys))) ss i ns total h s (uses_in (stmt_of s)) new within is
      (used_before (stmt_of s) (stmts_of (map stmt_of (drop (i + 1) ss))))

  pub statements_used : length ss ≤ i → ns ≡ total
  statements_used le = done (λ (ys : List CoreStmt). uses_in_all (stmts_of (map stmt_of ys))) ss i ns total h le refl

pub ruleset statements = (statement_used, statements_used)

abbrev pub one_group : CoreGroup → OneGroup
one_group g = record {
  labels = (out-CoreGroup g).labels.items;
  body = stmts_of (map stmt_of (out-CoreGroup g).body.items);
  end =
      (out-CoreGroup g).end;
}

pub group_of-is : (g : CoreGroup) → group_of g ≡ one_group g
unfolding stmt_of group_of
group_of-is g = fold_out-CoreGroup (Place → Stmt) OneGroup Stmt stmt_layer group_layer placed_stmt_layer g

module _ (gs : List CoreGroup) (i : ℕ) (ns total : List Use) (h : ns ++ uses_in_groups (groups_of (map group_of (drop i gs))) ≡ total) where
  pub group_used : (g : CoreGroup) (body : List CoreStmt) (new : List Use) → i < length gs → g ≡ get_or gs i g →
      body ≡ (out-CoreGroup g).body.items →
      new ≡ ns ++ uses_in_all (stmts_of (map stmt_of body)) →
      new ++ uses_in_groups (groups_of (map group_of (drop (i + 1) gs))) ≡ total
  group_used g body new within is eb e =
      next (λ (ys : List CoreGroup). uses_in_groups (groups_of (map group_of ys))) gs i ns total h g
      (uses_in_all (stmts_of (map stmt_of (out-CoreGroup g).body.items))) new within is
      (ap (λ o. uses_in_groups (groups_of (o ∷ map group_of (drop (i + 1) gs)))) (group_of-is g))
      (e ∙ ap (λ (ys : List CoreStmt). ns ++ uses_in_all (stmts_of (map stmt_of ys))) eb)

  pub groups_used : length gs ≤ i → ns ≡ total
  groups_used le = done (λ (ys : List CoreGroup). uses_in_groups (groups_of (map group_of ys))) gs i ns total h le refl

pub ruleset groups = (group_used, groups_used)

-- one part after the other

pub then_used : (a b c x y : List Use) → b ≡ a ++ x → c ≡ b ++ y → c ≡ a ++ (x ++ y)
then_used a b c x y e f = f ∙ ap (λ r. r ++ y) e ∙ append_assoc a x y

pub three_used : (a b c d x y z : List Use) → b ≡ a ++ x → c ≡ b ++ y → d ≡ c ++ z → d ≡ a ++ (x ++ (y ++ z))
three_used a b c d x y z e f g = then_used a b d x (y ++ z) e (then_used b c d y z f g)

pub one_used : (a b c : List Use) (n : Use) (x : List Use) → b ≡ a ++ n ∷ [] → c ≡ b ++ x → c ≡ a ++ (n ∷ x)
one_used a b c n x e f = then_used a b c (n ∷ []) x e f

-- Forms, from what the code has behind their parts.

module _ (x : CoreExpr) (a b : List Use) where
  used_as : (k : CoreExprKind) (e : Expr) → x.kind ≡ k → kind_of k x.place ≡ e → b ≡ a ++ uses_of e → b ≡ a ++ uses_of (expr_of x)
  used_as k e is ek h = h ∙ ap (λ z. a ++ uses_of z) (sym (expr_of-is x ∙ ap (λ (z : CoreExprKind). kind_of z x.place) is ∙ ek))

  pub inner_used : (i : Box CoreExpr Global) (y : CoreExpr) → y ≡ i.value → (x.kind ≡ E.Neg i) ⊎ (x.kind ≡ E.Not i) →
      b ≡ a ++ uses_of (expr_of y) → b ≡ a ++ uses_of (expr_of x)
  inner_used i y ey form h =
      let e = h ∙ ap (λ (z : CoreExpr). a ++ uses_of (expr_of z)) ey in
      ⊎_elim (λ is. used_as (E.Neg i) (Neg x.place (expr_of i.value)) is (kind-Neg i x.place) e)
      (λ is. used_as (E.Not i) (Not x.place (expr_of i.value)) is (kind-Not i x.place) e) form

  pub both_used : (l r : Box CoreExpr Global) (y z : CoreExpr) → y ≡ l.value → z ≡ r.value →
      ((o : Op) × x.kind ≡ E.Binary o l r) ⊎ ((x.kind ≡ E.Equals l r) ⊎ (x.kind ≡ E.Concat l r)) →
      b ≡ a ++ (uses_of (expr_of y) ++ uses_of (expr_of z)) → b ≡ a ++ uses_of (expr_of x)
  both_used l r y z ey ez form h =
      let e = h ∙ ap (λ (u : CoreExpr). a ++ (uses_of (expr_of u) ++ uses_of (expr_of z))) ey
      ∙ ap (λ (u : CoreExpr). a ++ (uses_of (expr_of l.value) ++ uses_of (expr_of u))) ez in
      ⊎_elim (λ p. used_as (E.Binary p.0 l r) (Binary x.place p.0 (expr_of l.value) (expr_of r.value)) p.1 (kind-Binary p.0 l r x.place) e)
      (⊎_elim (λ is. used_as (E.Equals l r) (Equals x.place (expr_of l.value) (expr_of r.value)) is (kind-Equals l r x.place) e)
      (λ is. used_as (E.Concat l r) (Concat x.place (expr_of l.value) (expr_of r.value)) is (kind-Concat l r x.place) e)) form

  pub call_used : (args : Row CoreExpr) (given : List CoreExpr) → given ≡ args.items →
      ((y : CoreVar) × (m : ℕ) × x.kind ≡ E.Protocol y m args)
      ⊎ (((m : ℕ) × x.kind ≡ E.Helper m args) ⊎ ((m : ℕ) × x.kind ≡ E.Static m args)) →
      b ≡ a ++ uses_of_all (exprs_of (map expr_of given)) → b ≡ a ++ uses_of (expr_of x)
  call_used args given eg form h =
      let all = exprs_of (map expr_of args.items) in
      let e = h ∙ ap (λ (ys : List CoreExpr). a ++ uses_of_all (exprs_of (map expr_of ys))) eg in
      ⊎_elim (λ p. used_as (E.Protocol p.0 p.1 args) (Protocol x.place p.0 p.1 all) p.2 (kind-Protocol p.0 p.1 args x.place) e)
      (⊎_elim (λ is. used_as (E.Helper is.0 args) (Helper x.place is.0 all) is.1 (kind-Helper is.0 args x.place) e)
      (λ is. used_as (E.Static is.0 args) (Static x.place is.0 all) is.1 (kind-Static is.0 args x.place) e)) form

  pub talk_used : (call : SessionCall) (args : Row CoreExpr) (given : List CoreExpr) (c : List Use) → given ≡ args.items →
      x.kind ≡ E.Session call args → c ≡ a ++ Talks x.place call ∷ [] → b ≡ c ++ uses_of_all (exprs_of (map expr_of given)) →
      b ≡ a ++ uses_of (expr_of x)
  talk_used call args given c eg is first h =
      let all = exprs_of (map expr_of args.items) in
      let e = then_used a c b (Talks x.place call ∷ []) (uses_of_all all) first
      (h ∙ ap (λ (ys : List CoreExpr). c ++ uses_of_all (exprs_of (map expr_of ys))) eg) in
      used_as (E.Session call args) (Session x.place call all) is (kind-Session call args x.place) e

pub ruleset using = (common_steps, views, then_used, three_used, one_used, append-nil)
