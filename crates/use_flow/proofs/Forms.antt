-- Each form of a statement, from what the code has behind its parts.
use Rattle.std.proofs.Common.{◌≡◌, ℕ, List, [], map, reverse, Some, None, refl, sym, ap, ◌∙◌, subst}
use Rattle.std.specs.declared.boxed.Box.{Box}
use Rattle.std.specs.declared.alloc.Global.{Global}
use Rattle.mg_text.specs.Row.{Row}
use Rattle.mg_text.specs.declared.place.Place.{Place}
use Rattle.jv_core.specs.declared.tree.CoreVar.{CoreVar}
use Rattle.jv_core.specs.declared.tree.CoreExpr.{CoreExpr}
use Rattle.jv_core.specs.declared.tree.CoreStmt.{CoreStmt}
use Rattle.jv_core.specs.declared.tree.CoreGroup.{CoreGroup}
use Rattle.jv_core.specs.declared.tree.CoreStmtKind.{CoreStmtKind}
use Rattle.jv_core.specs.declared.tree.CoreStmtKind.TheVariants as S
use Rattle.jv_core.specs.Tree.{Stmt, Block, Empty, Local, Assign, If, IfElse, While, Do, Switch, Break, Continue, Return, Print, Eval}
use Rattle.jv_core.specs.View.{expr_of, stmt_of, stmts_of, group_of, groups_of, stmt_kind_of}
use Rattle.jv_core.proofs.ViewLaws.{stmt_of-is, stmt-Block, stmt-Empty, stmt-Local, stmt-Assign, stmt-If-None, stmt-If-Some, stmt-While}
use Rattle.jv_core.proofs.ViewLaws.{stmt-Do, stmt-Switch, stmt-Break, stmt-Continue, stmt-Return, stmt-Print, stmt-Eval}
use Rattle.use_flow.specs.declared.course.Course.{Course}
use Rattle.use_flow.specs.declared.jumps.Jumps.{Jumps}
use Rattle.use_rules.specs.Elements.{Set}
use Rattle.use_rules.specs.State.{Now, Log, Flow, leaving, BehindSwitch, BehindLoop, GoesOn}
use Rattle.use_rules.specs.Flow.{flow, declared_here, all_labels}
use Rattle.use_flow.specs.View.{log_of}
use Rattle.use_flow.specs.inner.Ending.{left}
use Rattle.use_flow.specs.inner.Followed.{Followed, eval, loop_scope}
use Rattle.use_flow.specs.inner.Simple.{exit, local, assigned, printed, dropped, returned}
use Rattle.use_flow.specs.inner.Stepping.{Follows, step, steps, if_flow, if_else_flow, while_flow, do_flow, jumped, jump_flow}
use Rattle.use_flow.specs.inner.Switching.{switched, uncased, past, switch_flow}
use Rattle.use_flow.proofs.Coursing.{leaving-turned}
use Rattle.use_flow.proofs.Stepping.{follows_as, quiet_follows}

module _ (s : Followed) (out scope : List ℕ) (j : Jumps) (sets : List Set) (log : Log) (x : CoreStmt) (n : Now) (c : Course) where
  abbrev DoesStep : Type 0
  DoesStep = Follows (step s (reverse scope) out (stmt_of x) (Some sets) log) scope j n c

  formed : (k : CoreStmtKind) (y : Stmt) → x.kind ≡ k → stmt_kind_of k x.place ≡ y → Follows (step s (reverse scope) out y (Some sets) log)
      scope j n c → DoesStep
  formed k y h e a =
      subst (λ z. Follows (step s (reverse scope) out z (Some sets) log) scope j n c)
      (sym (stmt_of-is x ∙ ap (λ (z : CoreStmtKind). stmt_kind_of z x.place) h ∙ e)) a

  pub block_as : (body : Row CoreStmt) (end : Place) (given : List CoreStmt) → given ≡ body.items → x.kind ≡ S.Block body end →
      Follows (exit s end (declared_here (stmts_of (map stmt_of given))) (steps s (reverse scope) out (stmts_of (map stmt_of given))
      (Some sets) log)) scope j n c → DoesStep
  block_as body end given eg is a =
      formed (S.Block body end) (Block x.place (stmts_of (map stmt_of given)) end) is
      (stmt-Block body end x.place ∙ ap (λ (z : List CoreStmt). Block x.place (stmts_of (map stmt_of z)) end) (sym eg)) a

  module _ (es : c.scope.items ≡ scope) (ej : c.jumps ≡ j) where
    quiet_as : (k : CoreStmtKind) (y : Stmt) (f : Flow) → x.kind ≡ k → stmt_kind_of k x.place ≡ y →
        f ≡ step s (reverse scope) out y (Some sets) log →
        flow n [] (log_of c.log) ≡ f → DoesStep
    quiet_as k y f is e ef h = formed k y is e (quiet_follows (step s (reverse scope) out y (Some sets) log) scope j n c (h ∙ ef) es ej)

    pub empty_as : x.kind ≡ S.Empty → n ≡ Some sets → log_of c.log ≡ log → DoesStep
    empty_as is en el = quiet_as S.Empty (Empty x.place) (flow (Some sets) [] log) is (stmt-Empty x.place) refl
        (ap (λ y. flow y [] (log_of c.log)) en ∙ ap (flow (Some sets) []) el)

    pub local_as : (k : ℕ) (e : CoreExpr) → x.kind ≡ S.Local k e → flow n [] (log_of c.log) ≡ local s x.place k (expr_of e) sets log →
        DoesStep
    local_as k e is h = quiet_as (S.Local k e) (Local x.place k (expr_of e)) (local s x.place k (expr_of e) sets log) is
        (stmt-Local k e x.place) refl h

    pub assign_as : (t : CoreVar) (e : CoreExpr) → x.kind ≡ S.Assign t e → flow n [] (log_of c.log) ≡ assigned s t (expr_of e) sets log →
        DoesStep
    assign_as t e is h = quiet_as (S.Assign t e) (Assign x.place t (expr_of e)) (assigned s t (expr_of e) sets log) is
        (stmt-Assign t e x.place) refl h

    pub print_as : (e : CoreExpr) → x.kind ≡ S.Print e → flow n [] (log_of c.log) ≡ printed s (expr_of e) sets log → DoesStep
    print_as e is h = quiet_as (S.Print e) (Print x.place (expr_of e)) (printed s (expr_of e) sets log) is (stmt-Print e x.place) refl h

    pub eval_as : (e : CoreExpr) → x.kind ≡ S.Eval e → flow n [] (log_of c.log) ≡ dropped s x.place (expr_of e) sets log → DoesStep
    eval_as e is h = quiet_as (S.Eval e) (Eval x.place (expr_of e)) (dropped s x.place (expr_of e) sets log) is (stmt-Eval e x.place) refl h

    pub leave_as : x.kind ≡ S.Return None → n ≡ None → log_of c.log ≡ left s x.place None [] (reverse scope) (Some sets) log → DoesStep
    leave_as is en h =
        quiet_as (S.Return None) (Return x.place None) (flow None [] (left s x.place None [] (reverse scope) (Some sets) log)) is
        (stmt-Return None x.place) refl
        (ap (λ y. flow y [] (log_of c.log)) en ∙ ap (flow None []) h)

    pub return_as : (e : CoreExpr) → x.kind ≡ S.Return (Some e) → n ≡ None → flow None [] (log_of c.log) ≡ returned s x.place (expr_of e)
        (reverse scope) sets log → DoesStep
    return_as e is en h =
        quiet_as (S.Return (Some e)) (Return x.place (Some (expr_of e))) (returned s x.place (expr_of e) (reverse scope) sets log) is
        (stmt-Return (Some e) x.place) refl
        (ap (λ y. flow y [] (log_of c.log)) en ∙ h)

  module _ (e : CoreExpr) (a : Box CoreStmt Global) (y : CoreStmt) (ea : y ≡ a.value) where
    pub if_as : x.kind ≡ S.If e a None → Follows (if_flow s (reverse scope) out (stmt_of y) (eval s 0 (expr_of e) (Some sets) log)) scope j
        n c → DoesStep
    if_as is h = formed (S.If e a None) (If x.place (expr_of e) (stmt_of y)) is
        (stmt-If-None e a x.place ∙ ap (λ (z : CoreStmt). If x.place (expr_of e) (stmt_of z)) (sym ea)) h

    pub if_else_as : (b : Box CoreStmt Global) (z : CoreStmt) → z ≡ b.value → x.kind ≡ S.If e a (Some b) →
        Follows (if_else_flow s (reverse scope) out (stmt_of y) (stmt_of z) (eval s 0 (expr_of e) (Some sets) log)) scope j n c → DoesStep
    if_else_as b z eb is h = formed (S.If e a (Some b)) (IfElse x.place (expr_of e) (stmt_of y) (stmt_of z)) is
        (stmt-If-Some e a b x.place ∙ ap (λ (v : CoreStmt). IfElse x.place (expr_of e) (stmt_of v) (stmt_of b.value)) (sym ea)
        ∙ ap (λ (v : CoreStmt). IfElse x.place (expr_of e) (stmt_of y) (stmt_of v)) (sym eb)) h

    pub while_as : (l : ℕ) → x.kind ≡ S.While l e a → Follows (while_flow s (reverse scope) out l (expr_of e) (stmt_of y) sets log) scope j
        n c → DoesStep
    while_as l is h = formed (S.While l e a) (While x.place l (expr_of e) (stmt_of y)) is
        (stmt-While l e a x.place ∙ ap (λ (z : CoreStmt). While x.place l (expr_of e) (stmt_of z)) (sym ea)) h

    pub do_as : (l : ℕ) → x.kind ≡ S.Do l a e → Follows (do_flow s (reverse scope) out l (stmt_of y) (expr_of e) sets log) scope j n c →
        DoesStep
    do_as l is h = formed (S.Do l a e) (Do x.place l (stmt_of y) (expr_of e)) is
        (stmt-Do l a e x.place ∙ ap (λ (z : CoreStmt). Do x.place l (stmt_of z) (expr_of e)) (sym ea)) h

  pub switch_as : (e : CoreExpr) (gs : Row CoreGroup) (end : Place) (given : List CoreGroup) (rest gone : Now) (nows : List Now) (la : Log)
      → given ≡ gs.items → x.kind ≡ S.Switch e gs end →
      nows ≡ (switched s (expr_of e) (Some sets) log).1 → rest ≡ uncased s (all_labels (groups_of (map group_of given))) 0 nows →
      gone ≡ past s (groups_of (map group_of given)) nows → la ≡ (switched s (expr_of e) (Some sets) log).0.log →
      Follows (switch_flow s (reverse scope) rest gone nows (groups_of (map group_of given)) la) scope j n c → DoesStep
  switch_as e gs end given rest gone nows la eg is en er ep el h =
      let groups = groups_of (map group_of given) in
      formed (S.Switch e gs end) (Switch x.place (expr_of e) groups end) is
      (stmt-Switch e gs end x.place ∙ ap (λ (z : List CoreGroup). Switch x.place (expr_of e) (groups_of (map group_of z)) end) (sym eg))
      (follows_as (switch_flow s (reverse scope) rest gone nows groups la)
      (step s (reverse scope) out (Switch x.place (expr_of e) groups end) (Some sets) log) scope j n c
      (ap (λ y. switch_flow s (reverse scope) y gone nows groups la) er
      ∙ ap (λ y. switch_flow s (reverse scope) (uncased s (all_labels groups) 0 nows) y nows groups la) ep
      ∙ ap (λ y. switch_flow s (reverse scope) (uncased s (all_labels groups) 0 y) (past s groups y) y groups la) en
      ∙ ap (switch_flow s (reverse scope) (uncased s (all_labels groups) 0 (switched s (expr_of e) (Some sets) log).1)
      (past s groups (switched s (expr_of e) (Some sets) log).1)
      (switched s (expr_of e) (Some sets) log).1 groups) el) h)

  pub break_as : (o : List ℕ) → out ≡ reverse o → x.kind ≡ S.Break None →
      Follows (jump_flow s x.place BehindSwitch (reverse scope) o sets log) scope j n c → DoesStep
  break_as o eo is h =
      formed (S.Break None) (Break x.place None) is (stmt-Break None x.place)
      (follows_as (jump_flow s x.place BehindSwitch (reverse scope) o sets log) (jump_flow s x.place BehindSwitch (reverse scope) out sets
      log) scope j n c
      (ap (λ ks. jumped BehindSwitch (exit s x.place ks (flow (Some sets) [] log))) (sym (leaving-turned (reverse scope) o) ∙
      ap (leaving (reverse scope)) (sym eo))) h)

  pub break_loop_as : (l : ℕ) → x.kind ≡ S.Break (Some l) →
      Follows (jump_flow s x.place (BehindLoop l) (reverse scope) (loop_scope s l) sets log) scope j n c → DoesStep
  break_loop_as l is h = formed (S.Break (Some l)) (Break x.place (Some l)) is (stmt-Break (Some l) x.place) h

  pub continue_as : (l : ℕ) → x.kind ≡ S.Continue l → Follows (jump_flow s x.place (GoesOn l) (reverse scope) (loop_scope s l) sets log)
      scope j n c → DoesStep
  continue_as l is h = formed (S.Continue l) (Continue x.place l) is (stmt-Continue l x.place) h
