-- How each form of statement is left.
use Rattle.std.proofs.Common.{◌≡◌, ◌⊎◌, ⊎_elim, List, map, Option, Some, None, Bool, true, false, not, ◌&&◌, ◌||◌, refl, sym, ap, subst}
use Rattle.std.proofs.Common.{◌∙◌}
use Rattle.std.specs.declared.boxed.Box.{Box}
use Rattle.std.specs.declared.alloc.Global.{Global}
use Rattle.std.proofs.Math.Bool.{or-false}
use Rattle.mg_text.specs.Call.{Name}
use Rattle.mg_text.specs.Row.{Row}
use Rattle.mg_text.specs.declared.place.Place.{Place}
use Rattle.ts_tree.specs.declared.parts.TypeName.{TypeName}
use Rattle.jv_tree.specs.declared.tree.Expr.{Expr as KeptExpr}
use Rattle.jv_tree.specs.declared.tree.Stmt.{Stmt as KeptStmt}
use Rattle.jv_tree.specs.declared.tree.Group.{Group as KeptGroup}
use Rattle.jv_tree.specs.declared.tree.StmtKind.TheVariants as kinds
use Rattle.jv_tree.specs.Source.{Expr, Stmt, Block, Empty, Local, Assign, Print, Eval, If, IfElse, While, Do, Switch, Break, Continue}
use Rattle.jv_tree.specs.Source.{Groups}
use Rattle.jv_tree.specs.View.{expr_of, stmt_of, stmts_of, group_of, groups_of}
use Rattle.jv_tree.proofs.ViewLaws as laws
use Rattle.jv_rules.specs.Completes.{Through, Breaks, Continues}
use Rattle.jv_rules.specs.inner.Leaving.{is_always_true, has_default, for_loop, leaves, leaves_some, leaves_last}
use Rattle.jv_types.specs.declared.exits.Jumps.{Jumps}
use Rattle.jv_types.specs.declared.exits.Hidden.{Hidden}
use Rattle.jv_types.specs.inner.Exits.{Met, jumps, both, with_jumps, emptied, Adds}
use Rattle.jv_types.proofs.ExitSteps.{adds_nothing, loop_inner, loop_adds, switch_inner, switch_adds}
use Rattle.jv_types.proofs.Leaving.{stmt_is}

module _ (x : KeptStmt) where
  pub block_is : (b : Row KeptStmt) (end : Place) → x.kind ≡ kinds.Block b end → (ys : List KeptStmt) → ys ≡ b.items →
      Block x.place (stmts_of (map stmt_of ys)) end ≡ stmt_of x
  block_is b end is ys e = ap (λ (zs : List KeptStmt). Block x.place (stmts_of (map stmt_of zs)) end) e ∙ stmt_is x _ _ is
      (laws.kind-Block b end x.place)

  module _ (c : KeptExpr) (b : Box KeptStmt Global) (i : KeptStmt) (inner : i ≡ b.value) where
    pub if_is : x.kind ≡ kinds.If c b None → If x.place (expr_of c) (stmt_of i) ≡ stmt_of x
    if_is is = ap (λ (z : KeptStmt). If x.place (expr_of c) (stmt_of z)) inner ∙ stmt_is x _ _ is (laws.kind-If-None c b x.place)

    pub if_else_is : (d : Box KeptStmt Global) (o : KeptStmt) → o ≡ d.value → x.kind ≡ kinds.If c b (Some d) →
        IfElse x.place (expr_of c) (stmt_of i) (stmt_of o) ≡ stmt_of x
    if_else_is d o other is =
        ap (λ (z : KeptStmt). IfElse x.place (expr_of c) (stmt_of z) (stmt_of o)) inner ∙
        ap (λ (z : KeptStmt). IfElse x.place (expr_of c) (stmt_of b.value) (stmt_of z)) other
        ∙ stmt_is x _ _ is (laws.kind-If-Some c b d x.place)

    module _ (l seen : Option Name) (same : seen ≡ l) where
      pub while_is : x.kind ≡ kinds.While l c b → While x.place seen (expr_of c) (stmt_of i) ≡ stmt_of x
      while_is is =
          ap (λ z. While x.place z (expr_of c) (stmt_of i)) same ∙ ap (λ (z : KeptStmt). While x.place l (expr_of c) (stmt_of z)) inner
          ∙ stmt_is x _ _ is (laws.kind-While l c b x.place)

      pub do_is : x.kind ≡ kinds.Do l b c → Do x.place seen (stmt_of i) (expr_of c) ≡ stmt_of x
      do_is is =
          ap (λ z. Do x.place z (stmt_of i) (expr_of c)) same ∙ ap (λ (z : KeptStmt). Do x.place l (stmt_of z) (expr_of c)) inner
          ∙ stmt_is x _ _ is (laws.kind-Do l b c x.place)

  pub switch_is : (e : KeptExpr) (gs : Row KeptGroup) (end : Place) (ys : List KeptGroup) → x.kind ≡ kinds.Switch e gs end → ys ≡ gs.items →
      Switch x.place (expr_of e) (groups_of (map group_of ys)) end ≡ stmt_of x
  switch_is e gs end ys is k = ap (λ (zs : List KeptGroup). Switch x.place (expr_of e) (groups_of (map group_of zs)) end) k ∙
      stmt_is x _ _ is (laws.kind-Switch e gs end x.place)

  pub break_is : (l seen : Option Name) → seen ≡ l → x.kind ≡ kinds.Break l → Break x.place seen ≡ stmt_of x
  break_is l seen same is = ap (Break x.place) same ∙ stmt_is x _ _ is (laws.kind-Break l x.place)

  pub continue_is : (l seen : Option Name) → seen ≡ l → x.kind ≡ kinds.Continue l → Continue x.place seen ≡ stmt_of x
  continue_is l seen same is = ap (Continue x.place) same ∙ stmt_is x _ _ is (laws.kind-Continue l x.place)

-- a statement that is left so
abbrev pub IsLeft : Stmt → Bool → Met → Met → Type 0
IsLeft s b before after = (b ≡ leaves s Through) × Adds (leaves s) before after

-- statements with no statement inside complete
module _ (x : KeptStmt) (m : Met) where
  plain_left : (y : Stmt) → y ≡ stmt_of x → IsLeft y true m m → IsLeft (stmt_of x) true m m
  plain_left y e h = subst (λ s. IsLeft s true m m) e h

  pub silent_left : (x.kind ≡ kinds.Empty) ⊎ (((ty : TypeName) × (n : Name) × (e : KeptExpr) × x.kind ≡ kinds.Local ty n e)
      ⊎ ((t : KeptExpr) × (e : KeptExpr) × x.kind ≡ kinds.Assign t e)) →
      IsLeft (stmt_of x) true m m
  silent_left q =
      ⊎_elim (λ e. plain_left (Empty x.place) (stmt_is x _ _ e (laws.kind-Empty x.place))
      (refl, adds_nothing (leaves (Empty x.place)) m (λ l. refl)))
      (λ r. ⊎_elim (λ h. let y = Local x.place h.0 h.1 (expr_of h.2) in plain_left y
      (stmt_is x _ _ h.3 (laws.kind-Local h.0 h.1 h.2 x.place)) (refl, adds_nothing (leaves y) m (λ l. refl)))
      (λ h. let y = Assign x.place (expr_of h.0) (expr_of h.1) in plain_left y (stmt_is x _ _ h.2 (laws.kind-Assign h.0 h.1 x.place))
      (refl, adds_nothing (leaves y) m (λ l. refl))) r) q

  pub spoken_left : ((e : KeptExpr) × x.kind ≡ kinds.Print e) ⊎ ((e : KeptExpr) × x.kind ≡ kinds.Eval e) → IsLeft (stmt_of x) true m m
  spoken_left q =
      ⊎_elim (λ h. let y = Print x.place (expr_of h.0) in plain_left y (stmt_is x _ _ h.1 (laws.kind-Print h.0 x.place))
      (refl, adds_nothing (leaves y) m (λ l. refl)))
      (λ h. let y = Eval x.place (expr_of h.0) in plain_left y (stmt_is x _ _ h.1 (laws.kind-Eval h.0 x.place))
      (refl, adds_nothing (leaves y) m (λ l. refl))) q

-- a loop
module _ (p : Place) (l : Option Name) (c : Expr) (s : Stmt) (before entered within after : Met) (hidden : Hidden) (j : Jumps)
    (enters : (k : Option Name) → entered k ≡ emptied l before k) (adds : Adds (leaves s) entered within)
    (ends : (k : Option Name) → after k ≡ with_jumps (with_jumps within l hidden.labelled) None hidden.plain k)
    (plain : hidden.plain ≡ before None) (labelled : hidden.labelled ≡ before l) (inner : j ≡ both (within None) (within l)) where
  jumped : j ≡ jumps (for_loop l (λ k. leaves s (Breaks k))) (for_loop l (λ k. leaves s (Continues k)))
  jumped = inner ∙ loop_inner l (leaves s) before entered within enters adds

  pub while_left : (b : Bool) → b ≡ (not (is_always_true c) || j.breaks) → IsLeft (While p l c s) b before after
  while_left b e = (
    e ∙ ap (λ k. not (is_always_true c) || k.breaks) jumped ∙
        sym (or-false (not (is_always_true c) || for_loop l (λ k. leaves s (Breaks k)))),
    loop_adds l (leaves s) before entered within enters adds after hidden.plain hidden.labelled ends plain labelled,
  )

  pub do_left : (b completes : Bool) → b ≡ ((not (is_always_true c) && (completes || j.continues)) || j.breaks) →
      completes ≡ leaves s Through → IsLeft (Do p l s c) b before after
  do_left b completes e k = (
    e ∙ ap (λ z. (not (is_always_true c) && (completes || z.continues)) || z.breaks) jumped
        ∙ ap (λ z. (not (is_always_true c) && (z || for_loop l (λ k. leaves s (Continues k)))) || for_loop l (λ k. leaves s (Breaks k))) k ∙
        sym (or-false _),
    loop_adds l (leaves s) before entered within enters adds after hidden.plain hidden.labelled ends plain labelled,
  )

-- a switch
module _ (p : Place) (v : Expr) (gs : Groups) (end : Place) (before entered within after : Met) (hidden : Bool)
    (enters : (k : Option Name) → entered k ≡ with_jumps before None (jumps false (before None).continues) k)
    (adds : Adds (leaves_some gs) entered within)
    (ends : (k : Option Name) → after k ≡ with_jumps within None (jumps hidden (within None).continues) k)
    (hides : hidden ≡ (before None).breaks) where
  pub switch_left : (b completes broken : Bool) → b ≡ (not (has_default gs) || (completes || broken)) → completes ≡ leaves_last gs →
      broken ≡ (within None).breaks → IsLeft (Switch p v gs end) b before after
  switch_left b completes broken e k h = (
    e ∙ ap (λ z. not (has_default gs) || (z || broken)) k
        ∙ ap (λ z. not (has_default gs) || (leaves_last gs || z)) (h ∙ switch_inner (leaves_some gs) before entered within enters adds) ∙
        sym (or-false _),
    λ l. switch_adds (leaves_some gs) before entered within enters adds after hidden ends hides l,
  )
