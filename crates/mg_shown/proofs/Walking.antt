-- Which calls are found, part by part.
use Rattle.std.proofs.Common.{◌≡◌, ℕ, suc, ◌+◌, ◌<◌, ◌≤◌, List, [], ◌∷◌, ◌++◌, length, get_or, drop, map, refl, sym, ap, ◌∙◌, append_assoc}
use Rattle.std.proofs.Common.{◌⊎◌, ⊎_elim, flat_map}
use Rattle.std.specs.declared.boxed.Box.{Box}
use Rattle.std.specs.declared.alloc.Global.{Global}
use Rattle.std.proofs.lemmas.Grind.{common_steps, flat_map-append}
use Rattle.std.proofs.lemmas.List.{at_drop_more, at_drop_all, append-nil}
use Rattle.mg_text.specs.Row.{Row}
use Rattle.mg_text.specs.declared.place.Place.{Place}
use Rattle.jv_tree.specs.declared.tree.Op.{Op}
use Rattle.jv_tree.specs.declared.built_in.SessionCall.{SessionCall}
use Rattle.jv_core.specs.declared.tree.CoreVar.{CoreVar}
use Rattle.jv_core.specs.declared.tree.CoreExpr.{CoreExpr}
use Rattle.jv_core.specs.declared.tree.CoreExprKind.{CoreExprKind}
use Rattle.jv_core.specs.declared.tree.CoreExprKind.TheVariants as E
use Rattle.jv_core.specs.declared.tree.CoreStmt.{CoreStmt}
use Rattle.jv_core.specs.Tree.{Expr, Neg, Not, Binary, Equals, Concat, Protocol, Helper, Static, Session}
use Rattle.jv_core.specs.declared.tree.CoreGroup.{CoreGroup, out-CoreGroup, fold_out-CoreGroup}
use Rattle.jv_core.specs.Tree.{Stmt, Block, Empty, Local, Assign, If, IfElse, While, Do, Switch, Break, Continue, Return, Print, Eval}
use Rattle.jv_core.specs.Tree.{Stmts}
use Rattle.jv_core.specs.View.{expr_of, exprs_of, stmt_of, stmts_of, group_of, groups_of, before, OneGroup, stmt_layer, group_layer}
use Rattle.jv_core.specs.View.{placed_stmt_layer, kind_of, method_of}
use Rattle.jv_core.specs.declared.program.CoreMethod.{CoreMethod}
use Rattle.jv_core.proofs.ViewLaws.{views, expr_of-is, kind-Neg, kind-Not, kind-Binary, kind-Equals, kind-Concat, kind-Protocol}
use Rattle.jv_core.proofs.ViewLaws.{kind-Helper, kind-Static, kind-Session}
use Rattle.use_flow.proofs.Turns.{one, last}
use Rattle.use_sights.specs.declared.site.Site.{Site}
use Rattle.use_sights.specs.Calls.{Use, site_in, uses_in, uses_in_args, uses_of, uses_of_all, uses_of_groups, uses_from}
use Rattle.mg_shown.specs.inner.Walking.{sites_in, sites_in_args, sites_of, sites_of_all, sites_of_groups}

-- the calls among uses that stand one behind another
pub parts : (a b : List Use) → flat_map site_in (a ++ b) ≡ flat_map site_in a ++ flat_map site_in b
parts a b = flat_map-append site_in a b

-- a turn takes the first of what is left, and the last turn leaves nothing
module _ {A : Type 0} (rest : List A → List Site) (xs : List A) (i : ℕ) (ns total : List Site) (h : ns ++ rest (drop i xs) ≡ total) where
  next : (x : A) (first new : List Site) → i < length xs → x ≡ get_or xs i x → rest (x ∷ drop (i + 1) xs) ≡ first
      ++ rest (drop (i + 1) xs) → new ≡ ns ++ first → new ++ rest (drop (i + 1) xs) ≡ total
  next x first new within is splits e =
      ap (λ r. r ++ rest (drop (i + 1) xs)) e ∙ append_assoc ns first (rest (drop (i + 1) xs))
      ∙ ap (λ r. ns ++ r) (sym (at_drop_more rest xs i x within ∙ ap (λ y. rest (y ∷ drop (i + 1) xs)) (sym is) ∙ splits)) ∙ h

  done : length xs ≤ i → rest [] ≡ [] → ns ≡ total
  done le ends = sym (ap (λ r. ns ++ r) (at_drop_all rest xs i le ∙ ends) ∙ append-nil ns) ∙ h

module _ (n : ℕ) (es : List CoreExpr) (i : ℕ) (ns total : List Site)
    (h : ns ++ sites_in_args n (exprs_of (map expr_of (drop i es))) ≡ total) where
  pub argument_found : (e : CoreExpr) (new : List Site) → i < length es → e ≡ get_or es i e → new ≡ ns ++ sites_in n (expr_of e) →
      new ++ sites_in_args n (exprs_of (map expr_of (drop (i + 1) es))) ≡ total
  argument_found e new within is =
      next (λ (ys : List CoreExpr). sites_in_args n (exprs_of (map expr_of ys))) es i ns total h e (sites_in n (expr_of e)) new within is
      (parts (uses_in n (expr_of e)) (uses_in_args n (exprs_of (map expr_of (drop (i + 1) es)))))

  pub arguments_found : length es ≤ i → ns ≡ total
  arguments_found le = done (λ (ys : List CoreExpr). sites_in_args n (exprs_of (map expr_of ys))) es i ns total h le refl

pub ruleset arguments = (argument_found, arguments_found)

found_before : (n : ℕ) (s : Stmt) (more : Stmts) → uses_of_all n (before s more) ≡ uses_of n s ++ uses_of_all n more
found_before n (Block q body end) more = refl
found_before n (Empty q) more = refl
found_before n (Local q k e) more = refl
found_before n (Assign q x e) more = refl
found_before n (If q c s) more = refl
found_before n (IfElse q c s r) more = refl
found_before n (While q l c s) more = refl
found_before n (Do q l s c) more = refl
found_before n (Switch q e gs end) more = refl
found_before n (Break q l) more = refl
found_before n (Continue q l) more = refl
found_before n (Return q e) more = refl
found_before n (Print q e) more = refl
found_before n (Eval q e) more = refl

module _ (n : ℕ) (ss : List CoreStmt) (i : ℕ) (ns total : List Site)
    (h : ns ++ sites_of_all n (stmts_of (map stmt_of (drop i ss))) ≡ total) where
  pub statement_found : (s : CoreStmt) (new : List Site) → i < length ss → s ≡ get_or ss i s → new ≡ ns ++ sites_of n (stmt_of s) →
      new ++ sites_of_all n (stmts_of (map stmt_of (drop (i + 1) ss))) ≡ total
  statement_found s new within is =
      let more = stmts_of (map stmt_of (drop (i + 1) ss)) in
      next (λ (ys : List CoreStmt). sites_of_all n (stmts_of (map stmt_of ys))) ss i ns total h s (sites_of n (stmt_of s)) new within is
      (ap (flat_map site_in) (found_before n (stmt_of s) more) ∙ parts (uses_of n (stmt_of s)) (uses_of_all n more))

  pub statements_found : length ss ≤ i → ns ≡ total
  statements_found le = done (λ (ys : List CoreStmt). sites_of_all n (stmts_of (map stmt_of ys))) ss i ns total h le refl

pub ruleset statements = (statement_found, statements_found)

abbrev one_group : CoreGroup → OneGroup
one_group g = record {
  labels = (out-CoreGroup g).labels.items;
  body = stmts_of (map stmt_of (out-CoreGroup g).body.items);
  end = (out-CoreGroup g).end;
}

group_of-is : (g : CoreGroup) → group_of g ≡ one_group g
unfolding stmt_of group_of
group_of-is g = fold_out-CoreGroup (Place → Stmt) OneGroup Stmt stmt_layer group_layer placed_stmt_layer g

module _ (n : ℕ) (gs : List CoreGroup) (i : ℕ) (ns total : List Site)
    (h : ns ++ sites_of_groups n (groups_of (map group_of (drop i gs))) ≡ total) where
  pub group_found : (g : CoreGroup) (body : List CoreStmt) (new : List Site) → i < length gs → g ≡ get_or gs i g →
      body ≡ (out-CoreGroup g).body.items → new ≡ ns ++ sites_of_all n (stmts_of (map stmt_of body)) →
      new ++ sites_of_groups n (groups_of (map group_of (drop (i + 1) gs))) ≡ total
  group_found g body new within is eb e =
      let own = stmts_of (map stmt_of (out-CoreGroup g).body.items) in
      let more = groups_of (map group_of (drop (i + 1) gs)) in
      next (λ (ys : List CoreGroup). sites_of_groups n (groups_of (map group_of ys))) gs i ns total h g (sites_of_all n own) new within is
      (ap (λ o. sites_of_groups n (groups_of (o ∷ map group_of (drop (i + 1) gs)))) (group_of-is g)
      ∙ parts (uses_of_all n own) (uses_of_groups n more))
      (e ∙ ap (λ (ys : List CoreStmt). ns ++ sites_of_all n (stmts_of (map stmt_of ys))) eb)

  pub groups_found : length gs ≤ i → ns ≡ total
  groups_found le = done (λ (ys : List CoreGroup). sites_of_groups n (groups_of (map group_of ys))) gs i ns total h le refl

pub ruleset groups = (group_found, groups_found)

-- One part after the other.

pub then_found : (a b c : List Site) (x y : List Use) → b ≡ a ++ flat_map site_in x → c ≡ b ++ flat_map site_in y →
    c ≡ a ++ flat_map site_in (x ++ y)
then_found a b c x y e f =
    f ∙ ap (λ r. r ++ flat_map site_in y) e ∙ append_assoc a (flat_map site_in x) (flat_map site_in y) ∙ ap (λ r. a ++ r) (sym (parts x y))

pub three_found : (a b c d : List Site) (x y z : List Use) → b ≡ a ++ flat_map site_in x → c ≡ b ++ flat_map site_in y →
    d ≡ c ++ flat_map site_in z → d ≡ a ++ flat_map site_in (x ++ (y ++ z))
three_found a b c d x y z e f g = then_found a b d x (y ++ z) e (then_found b c d y z f g)

pub two_found : (a b c x y : List Site) → b ≡ a ++ x → c ≡ b ++ y → c ≡ a ++ (x ++ y)
two_found a b c x y e f = f ∙ ap (λ r. r ++ y) e ∙ append_assoc a x y

-- Forms, from what the code has behind their parts.

module _ (n : ℕ) (x : CoreExpr) (a b : List Site) where
  found_as : (k : CoreExprKind) (e : Expr) → x.kind ≡ k → kind_of k x.place ≡ e → b ≡ a ++ sites_in n e → b ≡ a ++ sites_in n (expr_of x)
  found_as k e is ek h = h ∙ ap (λ z. a ++ sites_in n z) (sym (expr_of-is x ∙ ap (λ (z : CoreExprKind). kind_of z x.place) is ∙ ek))

  pub inner_found : (i : Box CoreExpr Global) (y : CoreExpr) → y ≡ i.value → (x.kind ≡ E.Neg i) ⊎ (x.kind ≡ E.Not i) →
      b ≡ a ++ sites_in n (expr_of y) → b ≡ a ++ sites_in n (expr_of x)
  inner_found i y ey form h =
      let e = h ∙ ap (λ (z : CoreExpr). a ++ sites_in n (expr_of z)) ey in
      ⊎_elim (λ is. found_as (E.Neg i) (Neg x.place (expr_of i.value)) is (kind-Neg i x.place) e)
      (λ is. found_as (E.Not i) (Not x.place (expr_of i.value)) is (kind-Not i x.place) e) form

  pub both_found : (l r : Box CoreExpr Global) (y z : CoreExpr) → y ≡ l.value → z ≡ r.value →
      ((o : Op) × x.kind ≡ E.Binary o l r) ⊎ ((x.kind ≡ E.Equals l r) ⊎ (x.kind ≡ E.Concat l r)) →
      b ≡ a ++ (sites_in n (expr_of y) ++ sites_in n (expr_of z)) → b ≡ a ++ sites_in n (expr_of x)
  both_found l r y z ey ez form h =
      let e = h ∙ ap (λ (u : CoreExpr). a ++ (sites_in n (expr_of u) ++ sites_in n (expr_of z))) ey
      ∙ ap (λ (u : CoreExpr). a ++ (sites_in n (expr_of l.value) ++ sites_in n (expr_of u))) ez
      ∙ ap (λ s. a ++ s) (sym (parts (uses_in n (expr_of l.value)) (uses_in n (expr_of r.value)))) in
      ⊎_elim (λ p. found_as (E.Binary p.0 l r) (Binary x.place p.0 (expr_of l.value) (expr_of r.value)) p.1 (kind-Binary p.0 l r x.place) e)
      (⊎_elim (λ is. found_as (E.Equals l r) (Equals x.place (expr_of l.value) (expr_of r.value)) is (kind-Equals l r x.place) e)
      (λ is. found_as (E.Concat l r) (Concat x.place (expr_of l.value) (expr_of r.value)) is (kind-Concat l r x.place) e)) form

  pub call_found : (y : CoreVar) (m : ℕ) (args : Row CoreExpr) (given : List CoreExpr) (c : List Site) → given ≡ args.items →
      x.kind ≡ E.Protocol y m args → c ≡ a ++ record { place = y.place; within = n; variable = y.var; method = m } ∷ [] →
      b ≡ c ++ sites_in_args n (exprs_of (map expr_of given)) → b ≡ a ++ sites_in n (expr_of x)
  call_found y m args given c eg is first h =
      let all = exprs_of (map expr_of args.items) in
      found_as (E.Protocol y m args) (Protocol x.place y m all) is (kind-Protocol y m args x.place)
      (two_found a c b (record { place = y.place; within = n; variable = y.var; method = m } ∷ []) (sites_in_args n all) first
      (h ∙ ap (λ (ys : List CoreExpr). c ++ sites_in_args n (exprs_of (map expr_of ys))) eg))

  pub others_found : (args : Row CoreExpr) (given : List CoreExpr) → given ≡ args.items →
      ((m : ℕ) × x.kind ≡ E.Helper m args) ⊎ (((m : ℕ) × x.kind ≡ E.Static m args) ⊎ ((s : SessionCall) × x.kind ≡ E.Session s args)) →
      b ≡ a ++ sites_in_args n (exprs_of (map expr_of given)) → b ≡ a ++ sites_in n (expr_of x)
  others_found args given eg form h =
      let all = exprs_of (map expr_of args.items) in
      let e = h ∙ ap (λ (ys : List CoreExpr). a ++ sites_in_args n (exprs_of (map expr_of ys))) eg in
      ⊎_elim (λ p. found_as (E.Helper p.0 args) (Helper x.place p.0 all) p.1 (kind-Helper p.0 args x.place) e)
      (⊎_elim (λ p. found_as (E.Static p.0 args) (Static x.place p.0 all) p.1 (kind-Static p.0 args x.place) e)
      (λ p. found_as (E.Session p.0 args) (Session x.place p.0 all) p.1 (kind-Session p.0 args x.place) e)) form

pub ruleset naming = (common_steps, views, then_found, three_found, two_found, append-nil)

-- Method by method.

abbrev sites_from : (number : ℕ) → List CoreMethod → List Site
sites_from n ms = flat_map site_in (uses_from n (map method_of ms))

abbrev sites_at : (number : ℕ) → CoreMethod → List Site
sites_at n m = sites_of_all n (method_of m).body

pub method_found : (ms : List CoreMethod) (i : ℕ) (m : CoreMethod) (ns new total : List Site) → i < length ms → m ≡ get_or ms i m →
    new ≡ ns ++ sites_at i m → ns ++ sites_from i (drop i ms) ≡ total → new ++ sites_from (i + 1) (drop (i + 1) ms) ≡ total
method_found ms i m ns new total within is e h =
    one sites_from sites_at (λ k x s. parts (uses_of_all k (method_of x).body) (uses_from (suc k) (map method_of s))) (λ k. refl)
    i m ms ns new total within is e h

pub methods_found : (ms : List CoreMethod) (i : ℕ) (ns total : List Site) → length ms ≤ i → ns ++ sites_from i (drop i ms) ≡ total →
    ns ≡ total
methods_found ms i ns total le h =
    last sites_from sites_at (λ k x s. parts (uses_of_all k (method_of x).body) (uses_from (suc k) (map method_of s))) (λ k. refl)
    i ms ns total le h

pub ruleset methods = (method_found, methods_found)
