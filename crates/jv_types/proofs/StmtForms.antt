-- Each form of statement is judged as it is read.
use Rattle.std.proofs.Common.{◌≡◌, List, ◌∷◌, map, Option, Some, None, refl, sym, ap, ◌∙◌}
use Rattle.std.specs.Option.{option_or, option_map}
use Rattle.std.specs.declared.boxed.Box.{Box}
use Rattle.std.specs.declared.alloc.Global.{Global}
use Rattle.mg_text.specs.Call.{Name}
use Rattle.mg_text.specs.Row.{Row}
use Rattle.mg_text.specs.declared.place.Place.{Place}
use Rattle.ts_tree.specs.declared.parts.TypeName.{TypeName}
use Rattle.jv_tree.specs.declared.tree.Expr.{Expr as KeptExpr}
use Rattle.jv_tree.specs.declared.tree.Stmt.{Stmt as KeptStmt}
use Rattle.jv_tree.specs.declared.tree.Group.{Group as KeptGroup}
use Rattle.jv_tree.specs.declared.tree.StmtKind.TheVariants as kinds
use Rattle.jv_tree.specs.Source.{Local, Assign, Break, Continue, Return, Print, Eval, Switch}
use Rattle.jv_tree.specs.View.{expr_of, stmt_of, stmts_of, group_of, groups_of}
use Rattle.jv_tree.proofs.ViewLaws as laws
use Rattle.jv_rules.specs.Types.{BooleanType}
use Rattle.jv_rules.specs.Scope.{Scope, Loop, within}
use Rattle.jv_rules.specs.Scope as targets
use Rattle.jv_rules.specs.Taking.{Fitting}
use Rattle.jv_types.specs.inner.Stating.{stmt_fault, stmts_fault, groups_fault, value_told, loop_told, choice_told}
use Rattle.jv_types.specs.declared.judged.Wrong.{Wrong}
use Rattle.jv_types.specs.inner.Judging.{Tells}
use Rattle.jv_types.proofs.Checking.{tells_first}
use Rattle.jv_types.proofs.StmtLoops.{stmt_as}
use Rattle.jv_types.proofs.Composing.{if_told, if_else_told, while_told, do_told, switch_told}

-- the scope within a loop
pub loop_within : (s w : Scope) (l l' : Option Name) → w ≡ record s { around = Loop l' ∷ s.around } → l' ≡ l → w ≡ within (Loop l) s
loop_within s w l l' e k = e ∙ ap (λ z. within (Loop z) s) k

module _ (s : Scope) (x : KeptStmt) where
  pub block_is : (b : Row KeptStmt) (end : Place) → x.kind ≡ kinds.Block b end → (ys : List KeptStmt) → ys ≡ b.items →
      stmt_fault s (stmt_of x) ≡ stmts_fault s (stmts_of (map stmt_of ys))
  block_is b end is ys e = stmt_as s x _ _ is (laws.kind-Block b end x.place) ∙
      ap (λ (zs : List KeptStmt). stmts_fault s (stmts_of (map stmt_of zs))) (sym e)

  pub empty_is : x.kind ≡ kinds.Empty → stmt_fault s (stmt_of x) ≡ None
  empty_is is = stmt_as s x _ _ is (laws.kind-Empty x.place)

  pub local_is : (ty : TypeName) (n : Name) (e : KeptExpr) → x.kind ≡ kinds.Local ty n e → (name : Name) → name ≡ n →
      stmt_fault s (stmt_of x) ≡ stmt_fault s (Local x.place ty name (expr_of e))
  local_is ty n e is name k = stmt_as s x _ _ is (laws.kind-Local ty n e x.place) ∙ ap (λ z. stmt_fault s (Local x.place ty z (expr_of e)))
      (sym k)

  pub assign_is : (t e : KeptExpr) → x.kind ≡ kinds.Assign t e → stmt_fault s (stmt_of x) ≡ stmt_fault s
      (Assign x.place (expr_of t) (expr_of e))
  assign_is t e is = stmt_as s x _ _ is (laws.kind-Assign t e x.place)

  pub break_is : (l : Option Name) → x.kind ≡ kinds.Break l → stmt_fault s (stmt_of x) ≡ stmt_fault s (Break x.place l)
  break_is l is = stmt_as s x _ _ is (laws.kind-Break l x.place)

  pub continue_is : (l : Option Name) → x.kind ≡ kinds.Continue l → stmt_fault s (stmt_of x) ≡ stmt_fault s (Continue x.place l)
  continue_is l is = stmt_as s x _ _ is (laws.kind-Continue l x.place)

  pub return_is : (v : Option KeptExpr) → x.kind ≡ kinds.Return v → stmt_fault s (stmt_of x) ≡ stmt_fault s
      (Return x.place (option_map expr_of v))
  return_is v is = stmt_as s x _ _ is (laws.kind-Return v x.place)

  pub print_is : (e : KeptExpr) → x.kind ≡ kinds.Print e → stmt_fault s (stmt_of x) ≡ stmt_fault s (Print x.place (expr_of e))
  print_is e is = stmt_as s x _ _ is (laws.kind-Print e x.place)

  pub eval_is : (e : KeptExpr) → x.kind ≡ kinds.Eval e → stmt_fault s (stmt_of x) ≡ stmt_fault s (Eval x.place (expr_of e))
  eval_is e is = stmt_as s x _ _ is (laws.kind-Eval e x.place)

  module _ (c : KeptExpr) (b : Box KeptStmt Global) (i : KeptStmt) (inner : i ≡ b.value) where
    pub if_is : x.kind ≡ kinds.If c b None → stmt_fault s (stmt_of x) ≡ option_or (value_told s (expr_of c) (Fitting BooleanType))
        (stmt_fault s (stmt_of i))
    if_is is =
        stmt_as s x _ _ is (laws.kind-If-None c b x.place) ∙ if_told s x.place (expr_of c) (stmt_of b.value)
        ∙ ap (λ (z : KeptStmt). option_or (value_told s (expr_of c) (Fitting BooleanType)) (stmt_fault s (stmt_of z))) (sym inner)

    pub if_else_is : (d : Box KeptStmt Global) (o : KeptStmt) → o ≡ d.value → x.kind ≡ kinds.If c b (Some d) →
        stmt_fault s (stmt_of x) ≡ option_or (value_told s (expr_of c) (Fitting BooleanType))
        (option_or (stmt_fault s (stmt_of i)) (stmt_fault s (stmt_of o)))
    if_else_is d o other is =
        stmt_as s x _ _ is (laws.kind-If-Some c b d x.place) ∙ if_else_told s x.place (expr_of c) (stmt_of b.value) (stmt_of d.value)
        ∙ ap (λ (z : KeptStmt). option_or (value_told s (expr_of c) (Fitting BooleanType))
        (option_or (stmt_fault s (stmt_of z)) (stmt_fault s (stmt_of d.value)))) (sym inner)
        ∙ ap (λ (z : KeptStmt). option_or (value_told s (expr_of c) (Fitting BooleanType))
        (option_or (stmt_fault s (stmt_of i)) (stmt_fault s (stmt_of z)))) (sym other)

    -- what the condition tells, the whole tells
    pub if_tells : (r : Option (Box KeptStmt Global)) → x.kind ≡ kinds.If c b r → (w : Wrong) →
        Tells w (value_told s (expr_of c) (Fitting BooleanType)) → Tells w (stmt_fault s (stmt_of x))
    if_tells None is w t = tells_first w _ _ _ (if_is is) t
    if_tells (Some d) is w t = tells_first w _ _ _ (if_else_is d d.value refl is) t

    module _ (l : Option Name) (w : Scope) (at : w ≡ within (Loop l) s) where
      inside : stmt_fault (within (Loop l) s) (stmt_of b.value) ≡ stmt_fault w (stmt_of i)
      inside = ap (λ (z : KeptStmt). stmt_fault (within (Loop l) s) (stmt_of z)) (sym inner) ∙ ap (λ z. stmt_fault z (stmt_of i)) (sym at)

      pub while_is : x.kind ≡ kinds.While l c b → stmt_fault s (stmt_of x) ≡ option_or (loop_told s x.place l (expr_of c))
          (stmt_fault w (stmt_of i))
      while_is is =
          stmt_as s x _ _ is (laws.kind-While l c b x.place) ∙ while_told s x.place l (expr_of c) (stmt_of b.value) ∙
          ap (option_or (loop_told s x.place l (expr_of c))) inside

      pub do_is : x.kind ≡ kinds.Do l b c → stmt_fault s (stmt_of x) ≡ option_or (stmt_fault w (stmt_of i))
          (loop_told s x.place l (expr_of c))
      do_is is =
          stmt_as s x _ _ is (laws.kind-Do l b c x.place) ∙ do_told s x.place l (expr_of c) (stmt_of b.value) ∙
          ap (λ z. option_or z (loop_told s x.place l (expr_of c))) inside

  pub switch_is : (e : KeptExpr) (gs : Row KeptGroup) (end : Place) (ys : List KeptGroup) (w : Scope) → x.kind ≡ kinds.Switch e gs end →
      ys ≡ gs.items → w ≡ within targets.Switch s →
      stmt_fault s (stmt_of x) ≡ option_or (choice_told s x.place (expr_of e) (groups_of (map group_of ys)))
      (groups_fault w (groups_of (map group_of ys)))
  switch_is e gs end ys w is k at =
      stmt_as s x _ _ is (laws.kind-Switch e gs end x.place)
      ∙ ap (λ (zs : List KeptGroup). stmt_fault s (Switch x.place (expr_of e) (groups_of (map group_of zs)) end)) (sym k)
      ∙ switch_told s x.place (expr_of e) (groups_of (map group_of ys)) end
      ∙ ap (λ z. option_or (choice_told s x.place (expr_of e) (groups_of (map group_of ys))) (groups_fault z (groups_of (map group_of ys))))
      (sym at)
