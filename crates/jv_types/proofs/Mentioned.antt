-- The first type that is unknown, part by part.
use Rattle.std.proofs.Common.{◌≡◌, ℕ, ◌+◌, ◌<◌, ◌≤◌, List, ◌∷◌, ◌++◌, map, length, get_or, drop, Option, None, sym, ap, ◌∙◌}
use Rattle.std.specs.Option.{option_or}
use Rattle.std.proofs.lemmas.Grind.{common_steps}
use Rattle.std.proofs.lemmas.List.{at_drop_more, at_drop_all}
use Rattle.jv_tree.specs.declared.tree.Expr.{Expr as KeptExpr}
use Rattle.jv_tree.specs.declared.tree.Stmt.{Stmt as KeptStmt}
use Rattle.jv_tree.specs.declared.tree.Group.{Group as KeptGroup, out-Group, fold_out-Group}
use Rattle.std.specs.declared.boxed.Box.{Box}
use Rattle.std.specs.declared.alloc.Global.{Global}
use Rattle.mg_text.specs.Call.{Name}
use Rattle.mg_text.specs.Row.{Row}
use Rattle.jv_tree.specs.declared.tree.ExprKind.{ExprKind as KeptExprKind}
use Rattle.jv_tree.specs.declared.tree.ExprKind.TheVariants as kinds
use Rattle.jv_tree.specs.Source.{Expr, Stmt}
use Rattle.mg_text.specs.declared.place.Place.{Place}
use Rattle.jv_tree.specs.View.{expr_of, exprs_of, kind_of, stmt_of, stmts_of, group_of, groups_of, OneGroup, stmt_layer, group_layer}
use Rattle.jv_tree.specs.View.{placed_stmt_layer}
use Rattle.jv_tree.proofs.ViewLaws.{views, expr_of-is, kind-MethodCall}
use Rattle.jv_rules.specs.Members.{Mention, mentions_in, mentions_in_args, mentions_in_stmt, mentions_in_stmts, mentions_in_groups}
use Rattle.jv_rules.specs.inner.Deciding.{first_by}
use Rattle.jv_types.proofs.Faulting.{first_by-append}
use Rattle.mg_read.specs.Culprit.{Culprit}

pub ruleset mentioned = (common_steps, views, first_by-append)

group_of-is : (g : KeptGroup) → group_of g ≡ record {
  labels = (out-Group g).labels.items;
  body =
      stmts_of (map stmt_of (out-Group g).body.items);
  end = (out-Group g).end;
}
unfolding group_of stmt_of
group_of-is g = fold_out-Group (Place → Stmt) OneGroup Stmt stmt_layer group_layer placed_stmt_layer g

module _ (f : Mention → Option Culprit) where
  pub args-step : (es : List KeptExpr) (i : ℕ) (x : KeptExpr) → i < length es → x ≡ get_or es i x →
      first_by f (mentions_in_args (exprs_of (map expr_of (drop i es))))
      ≡ option_or (first_by f (mentions_in (expr_of x))) (first_by f (mentions_in_args (exprs_of (map expr_of (drop (i + 1) es)))))
  args-step es i x within is =
      at_drop_more (λ l. first_by f (mentions_in_args (exprs_of (map expr_of l)))) es i x within
      ∙ ap (λ y. first_by f (mentions_in_args (exprs_of (map expr_of (y ∷ drop (i + 1) es))))) (sym is)
      ∙ first_by-append f (mentions_in (expr_of x)) (mentions_in_args (exprs_of (map expr_of (drop (i + 1) es))))

  pub stmts-step : (ss : List KeptStmt) (i : ℕ) (x : KeptStmt) → i < length ss → x ≡ get_or ss i x →
      first_by f (mentions_in_stmts (stmts_of (map stmt_of (drop i ss))))
      ≡ option_or (first_by f (mentions_in_stmt (stmt_of x))) (first_by f (mentions_in_stmts (stmts_of (map stmt_of (drop (i + 1) ss)))))
  stmts-step ss i x within is =
      at_drop_more (λ l. first_by f (mentions_in_stmts (stmts_of (map stmt_of l)))) ss i x within
      ∙ ap (λ y. first_by f (mentions_in_stmts (stmts_of (map stmt_of (y ∷ drop (i + 1) ss))))) (sym is)
      ∙ first_by-append f (mentions_in_stmt (stmt_of x)) (mentions_in_stmts (stmts_of (map stmt_of (drop (i + 1) ss))))

  pub groups-step : (gs : List KeptGroup) (i : ℕ) (x : KeptGroup) → i < length gs → x ≡ get_or gs i x →
      first_by f (mentions_in_groups (groups_of (map group_of (drop i gs))))
      ≡ option_or (first_by f (mentions_in_stmts (stmts_of (map stmt_of (out-Group x).body.items))))
      (first_by f (mentions_in_groups (groups_of (map group_of (drop (i + 1) gs)))))
  groups-step gs i x within is =
      let more = groups_of (map group_of (drop (i + 1) gs)) in
      at_drop_more (λ l. first_by f (mentions_in_groups (groups_of (map group_of l)))) gs i x within
      ∙ ap (λ y. first_by f (mentions_in_stmts (group_of y).body ++ mentions_in_groups more)) (sym is)
      ∙ ap (λ (g : OneGroup). first_by f (mentions_in_stmts g.body ++ mentions_in_groups more)) (group_of-is x)
      ∙ first_by-append f (mentions_in_stmts (stmts_of (map stmt_of (out-Group x).body.items))) (mentions_in_groups more)

  pub call-parts : (e : KeptExpr) (of : Box KeptExpr Global) (n : Name) (args : Row KeptExpr) → e.kind ≡ kinds.MethodCall of n args →
      first_by f (mentions_in (expr_of e)) ≡ option_or (first_by f (mentions_in (expr_of of.value)))
      (first_by f (mentions_in_args (exprs_of (map expr_of args.items))))
  call-parts e of n args is =
      ap (λ (x : Expr). first_by f (mentions_in x)) (expr_of-is e ∙ ap (λ (k : KeptExprKind). kind_of k e.place) is ∙ kind-MethodCall of n
      args e.place)
      ∙ first_by-append f (mentions_in (expr_of of.value)) (mentions_in_args (exprs_of (map expr_of args.items)))

  pub args-past : (es : List KeptExpr) (i : ℕ) → length es ≤ i → first_by f (mentions_in_args (exprs_of (map expr_of (drop i es)))) ≡ None
  args-past es i h = at_drop_all (λ l. first_by f (mentions_in_args (exprs_of (map expr_of l)))) es i h

  pub stmts-past : (ss : List KeptStmt) (i : ℕ) → length ss ≤ i → first_by f (mentions_in_stmts (stmts_of (map stmt_of (drop i ss)))) ≡ None
  stmts-past ss i h = at_drop_all (λ l. first_by f (mentions_in_stmts (stmts_of (map stmt_of l)))) ss i h

  pub groups-past : (gs : List KeptGroup) (i : ℕ) → length gs ≤ i → first_by f (mentions_in_groups (groups_of (map group_of (drop i gs)))) ≡
      None
  groups-past gs i h = at_drop_all (λ l. first_by f (mentions_in_groups (groups_of (map group_of l)))) gs i h

pub ruleset arg_steps = (common_steps, views, args-step, args-past)

pub ruleset stmt_steps = (common_steps, views, stmts-step, stmts-past)

pub ruleset group_steps = (common_steps, views, groups-step, groups-past)
