use Rattle.std.proofs.Common.{◌≡◌, ◌-◌, drop, length, map, Some, None, refl, sym, ap, subst, ◌∙◌, arith}
use Rattle.std.proofs.lemmas.Grind.{common_steps}
use Rattle.std.proofs.lemmas.Result.{err_from_is_err_and}
use Rattle.jv_tree.specs.declared.tree.StmtKind.TheVariants as kinds
use Rattle.jv_tree.specs.View.{expr_of, stmt_of, stmts_of, group_of, groups_of}
use Rattle.jv_types.specs.inner.Scopes.{scope_seen}
use Rattle.jv_rules.specs.Scope.{behind, Loop, within}
use Rattle.jv_rules.specs.Scope as targets
use Rattle.jv_types.specs.inner.Judging.{Tells}
use Rattle.jv_types.specs.inner.Stating.{Answers, Extends, stmt_fault, stmts_fault, groups_fault, value_told, loop_told}
use Rattle.jv_types.proofs.Checking.{tells_first, tells_later}
use Rattle.jv_types.proofs.StmtLoops.{answers_as, answers_last, judged_start, judged_wrong, judged_more, judged_done, all_dropped}
use Rattle.jv_types.proofs.StmtLoops.{group_wrong, group_more, groups_done}
use Rattle.jv_types.proofs.StmtForms as forms
use Rattle.jv_types.proofs.StmtSteps.{print_told, return_told}
use Rattle.jv_types.proofs.stmts.+stmts.Goals as goal

pub check_stmt-returns-in-Block-clause-told : goal.check_stmt-returns-in-Block-clause-told
check_stmt-returns-in-Block-clause-told t c =
    answers_as c.check_stmts.result _ _ (forms.block_is (scope_seen c.args.scope.now c.args.locals.now) c.args.stmt.now c.in-Block.body _
    c.in-Block.is c.as_slice.result.now c.as_slice.ensures.items) c.check_stmts.ensures.told

pub check_stmt-returns-in-Empty-clause-told : goal.check_stmt-returns-in-Empty-clause-told
check_stmt-returns-in-Empty-clause-told t c =
    forms.empty_is (scope_seen c.args.scope.now c.args.locals.now) c.args.stmt.now c.in-Empty.is

pub check_stmt-returns-in-Local-clause-told : goal.check_stmt-returns-in-Local-clause-told
check_stmt-returns-in-Local-clause-told t c =
    answers_as c.check_local.result _ _ (forms.local_is (scope_seen c.args.scope.now c.args.locals.now) c.args.stmt.now c.in-Local.ty
    c.in-Local.name c.in-Local.value c.in-Local.is c.as_str.result.now c.as_str.ensures) c.check_local.ensures

pub check_stmt-returns-in-Assign-clause-told : goal.check_stmt-returns-in-Assign-clause-told
check_stmt-returns-in-Assign-clause-told t c =
    answers_as c.check_assign.result _ _ (forms.assign_is (scope_seen c.args.scope.now c.args.locals.now) c.args.stmt.now c.in-Assign.target
    c.in-Assign.value c.in-Assign.is) c.check_assign.ensures

pub check_stmt-returns-in-Break-clause-told : goal.check_stmt-returns-in-Break-clause-told
check_stmt-returns-in-Break-clause-told t c =
    answers_as c.check_break.result _ _ (forms.break_is (scope_seen c.args.scope.now c.args.locals.now) c.args.stmt.now c.in-Break.label
    c.in-Break.is) c.check_break.ensures

pub check_stmt-returns-in-Continue-clause-told : goal.check_stmt-returns-in-Continue-clause-told
check_stmt-returns-in-Continue-clause-told t c =
    answers_as c.check_continue.result _ _ (forms.continue_is (scope_seen c.args.scope.now c.args.locals.now) c.args.stmt.now
    c.in-Continue.label c.in-Continue.is) c.check_continue.ensures

pub check_stmt-returns-in-Print-clause-told : goal.check_stmt-returns-in-Print-clause-told
check_stmt-returns-in-Print-clause-told t c =
    let s = scope_seen c.args.scope.now c.args.locals.now in
    answers_as c.check_value-in-Print.result _ _ (forms.print_is s c.args.stmt.now c.in-Print.value c.in-Print.is ∙
    print_told s c.args.stmt.now.place (expr_of c.in-Print.value)) c.check_value-in-Print.ensures

pub check_stmt-returns-in_err-check_expr-in-Eval-clause-told : goal.check_stmt-returns-in_err-check_expr-in-Eval-clause-told
check_stmt-returns-in_err-check_expr-in-Eval-clause-told t c =
    let r = err_from_is_err_and c.from_residual-in_err-check_expr-in-Eval.result c.from_residual-in_err-check_expr-in-Eval.ensures.1 in
    rw (r.1, r.2)
    (subst (Tells c.in_err-check_expr-in-Eval.field-0.0) (sym (forms.eval_is (scope_seen c.args.scope.now c.args.locals.now)
    c.args.stmt.now c.in-Eval.value c.in-Eval.is)) c.in_err-check_expr-in-Eval.ensures)

pub check_stmt-returns-in_ok-check_expr-in-Eval-clause-told : goal.check_stmt-returns-in_ok-check_expr-in-Eval-clause-told
check_stmt-returns-in_ok-check_expr-in-Eval-clause-told t c =
    forms.eval_is (scope_seen c.args.scope.now c.args.locals.now) c.args.stmt.now c.in-Eval.value c.in-Eval.is
    ∙ c.in_ok-check_expr-in-Eval.ensures.fine

pub check_stmt-returns-in_err-check_loop-in-While-clause-told : goal.check_stmt-returns-in_err-check_loop-in-While-clause-told
check_stmt-returns-in_err-check_loop-in-While-clause-told t c =
    let r = err_from_is_err_and c.from_residual-in_err-check_loop-in-While.result c.from_residual-in_err-check_loop-in-While.ensures.1 in
    rw (r.1, r.2)
    (tells_first c.in_err-check_loop-in-While.field-0.0 _ _ _ (forms.while_is (scope_seen c.args.scope.now c.args.locals.now)
    c.args.stmt.now c.in-While.condition c.in-While.inner c.in-While.inner.value refl c.in-While.label _ refl c.in-While.is)
    c.in_err-check_loop-in-While.ensures)

pub check_stmt-returns-in_ok-check_loop-in-While-clause-told : goal.check_stmt-returns-in_ok-check_loop-in-While-clause-told
check_stmt-returns-in_ok-check_loop-in-While-clause-told t c =
    answers_last c.check_inner.result _ _ _ (forms.while_is (scope_seen c.args.scope.now c.args.locals.now) c.args.stmt.now
    c.in-While.condition c.in-While.inner c.deref-in-While.result.now c.deref-in-While.ensures c.in-While.label
    (within (Loop c.in-While.label) (scope_seen c.args.scope.now c.args.locals.now)) refl c.in-While.is)
    c.in_ok-check_loop-in-While.ensures c.check_inner.ensures.told

pub check_stmt-returns-in_err-check_inner-in-Do-clause-told : goal.check_stmt-returns-in_err-check_inner-in-Do-clause-told
check_stmt-returns-in_err-check_inner-in-Do-clause-told t c =
    let r = err_from_is_err_and c.from_residual-in_err-check_inner-in-Do.result c.from_residual-in_err-check_inner-in-Do.ensures.1 in
    rw (r.1, r.2)
    (tells_first c.in_err-check_inner-in-Do.field-0.0 _ _ _ (forms.do_is (scope_seen c.args.scope.now c.args.locals.now) c.args.stmt.now
    c.in-Do.condition c.in-Do.inner c.deref-in-Do.result.now c.deref-in-Do.ensures c.in-Do.label
    (within (Loop c.in-Do.label) (scope_seen c.args.scope.now c.args.locals.now)) refl c.in-Do.is)
    c.in_err-check_inner-in-Do.ensures.told)

pub check_stmt-returns-in_ok-check_inner-in-Do-clause-told : goal.check_stmt-returns-in_ok-check_inner-in-Do-clause-told
check_stmt-returns-in_ok-check_inner-in-Do-clause-told t c =
    answers_last c.check_loop-in-Do.result _ _ _ (forms.do_is (scope_seen c.args.scope.now c.args.locals.now) c.args.stmt.now
    c.in-Do.condition c.in-Do.inner c.deref-in-Do.result.now c.deref-in-Do.ensures c.in-Do.label
    (within (Loop c.in-Do.label) (scope_seen c.args.scope.now c.args.locals.now)) refl c.in-Do.is)
    c.in_ok-check_inner-in-Do.ensures.told
    (subst (λ l. Answers (loop_told (scope_seen c.args.scope.now l) c.args.stmt.now.place c.in-Do.label (expr_of c.in-Do.condition))
    c.check_loop-in-Do.result) c.in_ok-check_inner-in-Do.ensures.kept c.check_loop-in-Do.ensures)

pub check_stmt-returns-in_err-check_choice-in-Switch-clause-told : goal.check_stmt-returns-in_err-check_choice-in-Switch-clause-told
check_stmt-returns-in_err-check_choice-in-Switch-clause-told t c =
    let r = err_from_is_err_and c.from_residual-in_err-check_choice-in-Switch.result c.from_residual-in_err-check_choice-in-Switch.ensures.1
    in
    rw (r.1, r.2)
    (tells_first c.in_err-check_choice-in-Switch.field-0.0 _ _ _ (forms.switch_is (scope_seen c.args.scope.now c.args.locals.now)
    c.args.stmt.now c.in-Switch.value c.in-Switch.groups _ c.as_slice-groups.result.now _ c.in-Switch.is c.as_slice-groups.ensures.items
    refl) c.in_err-check_choice-in-Switch.ensures)

pub check_stmt-returns-in_ok-check_choice-in-Switch-clause-told : goal.check_stmt-returns-in_ok-check_choice-in-Switch-clause-told
check_stmt-returns-in_ok-check_choice-in-Switch-clause-told t c =
    answers_last c.check_groups.result _ _ _ (forms.switch_is (scope_seen c.args.scope.now c.args.locals.now) c.args.stmt.now
    c.in-Switch.value c.in-Switch.groups _ c.as_slice-groups.result.now
    (within targets.Switch (scope_seen c.args.scope.now c.args.locals.now)) c.in-Switch.is c.as_slice-groups.ensures.items refl)
    c.in_ok-check_choice-in-Switch.ensures c.check_groups.ensures.told

pub check_stmts-loop-stmt-init : goal.check_stmts-loop-stmt-init
check_stmts-loop-stmt-init t c =
    judged_start (scope_seen c.args.scope.now c.args.locals.now) (scope_seen c.args.scope.now c.args.locals.now) c.args.locals.now
    c.args.locals.now (stmts_of (map stmt_of c.args.stmts.now))

pub check_stmts-returns-in_err-check_stmt-clause-told : goal.check_stmts-returns-in_err-check_stmt-clause-told
check_stmts-returns-in_err-check_stmt-clause-told t c =
    let r = err_from_is_err_and c.from_residual.result c.from_residual.ensures.1 in
    rw (r.1, r.2)
    (judged_wrong (scope_seen c.args.scope.now c.args.locals.now) (scope_seen c.args.scope.now c.loop-stmt.locals) c.args.locals.now
    c.loop-stmt.locals (stmts_of (map stmt_of c.args.stmts.now)) c.args.stmts.now c.loop-stmt.stmt-index c.stmt-item.result c.loop-stmt-test.true
    c.stmt-item.is c.loop-stmt.invariant c.in_err-check_stmt.field-0.0 c.in_err-check_stmt.ensures.told)

pub check_stmts-returns-in_err-declare_local-clause-told : goal.check_stmts-returns-in_err-declare_local-clause-told
check_stmts-returns-in_err-declare_local-clause-told t c =
    let r = err_from_is_err_and c.from_residual-in_err-declare_local.result c.from_residual-in_err-declare_local.ensures.1 in
    rw (r.1, r.2) tt

pub check_stmts-declare_local-requires : goal.check_stmts-declare_local-requires
check_stmts-declare_local-requires t c =
    subst (λ l. stmt_fault (scope_seen c.args.scope.now l) (stmt_of c.stmt-item.result) ≡ None) (sym c.in_ok-check_stmt.ensures.kept)
    c.in_ok-check_stmt.ensures.told

pub check_stmts-loop-stmt-preserved : goal.check_stmts-loop-stmt-preserved
check_stmts-loop-stmt-preserved t c =
    judged_more (scope_seen c.args.scope.now c.args.locals.now) (scope_seen c.args.scope.now c.loop-stmt.locals) c.args.locals.now
    c.loop-stmt.locals (stmts_of (map stmt_of c.args.stmts.now)) c.args.stmts.now c.loop-stmt.stmt-index c.stmt-item.result c.loop-stmt-test.true
    c.stmt-item.is c.loop-stmt.invariant (scope_seen c.args.scope.now c.declare_local.new.locals) c.declare_local.new.locals
    c.in_ok-check_stmt.ensures.told
    (c.in_ok-declare_local.ensures.scope ∙ ap (λ l. behind (stmt_of c.stmt-item.result) (scope_seen c.args.scope.now l))
    c.in_ok-check_stmt.ensures.kept)
    (subst (λ l. Extends l c.declare_local.new.locals) c.in_ok-check_stmt.ensures.kept c.in_ok-declare_local.ensures.locals)

pub check_stmts-returns-clause-told : goal.check_stmts-returns-clause-told
check_stmts-returns-clause-told t c =
    judged_done (scope_seen c.args.scope.now c.args.locals.now) (scope_seen c.args.scope.now c.loop-stmt.locals) c.args.locals.now
    c.loop-stmt.locals (stmts_of (map stmt_of c.args.stmts.now)) c.args.stmts.now c.loop-stmt.stmt-index c.loop-stmt-test.false c.loop-stmt.invariant

pub check_stmts-returns-clause-kept : goal.check_stmts-returns-clause-kept
check_stmts-returns-clause-kept t c =
    c.truncate.ensures ∙ ap (λ n. drop (length c.loop-stmt.locals - n) c.loop-stmt.locals) c.len-outer.ensures ∙
    all_dropped c.args.locals.now c.loop-stmt.locals c.loop-stmt.invariant.locals

pub check_groups-loop-group-init : goal.check_groups-loop-group-init
check_groups-loop-group-init t c =
    record { left = refl; locals = refl }

pub check_groups-returns-in_err-check_stmts-clause-told : goal.check_groups-returns-in_err-check_stmts-clause-told
check_groups-returns-in_err-check_stmts-clause-told t c =
    let r = err_from_is_err_and c.from_residual.result c.from_residual.ensures.1 in
    let body = stmts_of (map stmt_of c.as_slice.result.now) in
    rw (r.1, r.2)
    (group_wrong (within targets.Switch (scope_seen c.args.scope.now c.args.locals.now)) (groups_of (map group_of c.args.groups.now))
    c.args.groups.now c.loop-group.group-index c.loop-group.invariant.left c.group-item.result c.loop-group-test.true c.group-item.is
    c.as_slice.result.now c.as_slice.ensures.items c.in_err-check_stmts.field-0.0
    (subst (λ l. Tells c.in_err-check_stmts.field-0.0 (stmts_fault (within targets.Switch (scope_seen c.args.scope.now l)) body))
    c.loop-group.invariant.locals
    (subst (λ z. Tells c.in_err-check_stmts.field-0.0 (stmts_fault z body)) (c.within-within.ensures c.loop-group.locals)
    c.in_err-check_stmts.ensures.told)))

pub check_groups-loop-group-preserved : goal.check_groups-loop-group-preserved
check_groups-loop-group-preserved t c =
    let body = stmts_of (map stmt_of c.as_slice.result.now) in
    record {
      left = group_more (within targets.Switch (scope_seen c.args.scope.now c.args.locals.now)) (groups_of (map group_of c.args.groups.now))
          c.args.groups.now c.loop-group.group-index c.loop-group.invariant.left c.group-item.result c.loop-group-test.true c.group-item.is
          c.as_slice.result.now c.as_slice.ensures.items
          (subst (λ l. stmts_fault (within targets.Switch (scope_seen c.args.scope.now l)) body ≡ None) c.loop-group.invariant.locals
          (subst (λ z. stmts_fault z body ≡ None) (c.within-within.ensures c.loop-group.locals) c.in_ok-check_stmts.ensures.told));
      locals = c.in_ok-check_stmts.ensures.kept ∙ c.loop-group.invariant.locals;
    }

pub check_groups-returns-clause-told : goal.check_groups-returns-clause-told
check_groups-returns-clause-told t c =
    groups_done (within targets.Switch (scope_seen c.args.scope.now c.args.locals.now)) (groups_of (map group_of c.args.groups.now))
    c.args.groups.now c.loop-group.group-index c.loop-group.invariant.left c.loop-group-test.false

pub check_groups-returns-clause-kept : goal.check_groups-returns-clause-kept
check_groups-returns-clause-kept t c =
    c.loop-group.invariant.locals

pub check_stmt-returns-in_err-check_value-in-If-clause-told : goal.check_stmt-returns-in_err-check_value-in-If-clause-told
check_stmt-returns-in_err-check_value-in-If-clause-told t c =
    let r = err_from_is_err_and c.from_residual.result c.from_residual.ensures.1 in
    rw (r.1, r.2) (forms.if_tells (scope_seen c.args.scope.now c.args.locals.now) c.args.stmt.now c.in-If.condition c.in-If.inner
    c.in-If.inner.value refl c.in-If.otherwise c.in-If.is c.in_err-check_value-in-If.field-0.0
    c.in_err-check_value-in-If.ensures)

pub check_stmt-returns-in-None-clause-told : goal.check_stmt-returns-in-None-clause-told
check_stmt-returns-in-None-clause-told t c =
    answers_last c.check_stmt.result _ _ _ (forms.if_is (scope_seen c.args.scope.now c.args.locals.now) c.args.stmt.now c.in-If.condition
    c.in-If.inner c.deref.result.now c.deref.ensures (c.in-If.is ∙ ap (kinds.If c.in-If.condition c.in-If.inner) c.in-None.is))
    c.in_ok-check_value-in-If.ensures c.check_stmt.ensures.told

pub check_stmt-returns-in_err-check_stmt-in-Some-clause-told : goal.check_stmt-returns-in_err-check_stmt-in-Some-clause-told
check_stmt-returns-in_err-check_stmt-in-Some-clause-told t c =
    let r = err_from_is_err_and c.from_residual-in_err-check_stmt-in-Some.result c.from_residual-in_err-check_stmt-in-Some.ensures.1 in
    rw (r.1, r.2)
    (tells_later c.in_err-check_stmt-in-Some.field-0.0 _ _ _ (forms.if_else_is (scope_seen c.args.scope.now c.args.locals.now)
    c.args.stmt.now c.in-If.condition c.in-If.inner c.deref-in-Some.result.now c.deref-in-Some.ensures c.in-Some.otherwise
    c.in-Some.otherwise.value refl (c.in-If.is ∙ ap (kinds.If c.in-If.condition c.in-If.inner) c.in-Some.is))
    c.in_ok-check_value-in-If.ensures (tells_first c.in_err-check_stmt-in-Some.field-0.0 _ _ _ refl
    c.in_err-check_stmt-in-Some.ensures.told))

pub check_stmt-returns-in_ok-check_stmt-in-Some-clause-told : goal.check_stmt-returns-in_ok-check_stmt-in-Some-clause-told
check_stmt-returns-in_ok-check_stmt-in-Some-clause-told t c =
    answers_last c.check_stmt-in-Some-2.result _ _ _ (forms.if_else_is (scope_seen c.args.scope.now c.args.locals.now) c.args.stmt.now
    c.in-If.condition c.in-If.inner c.deref-in-Some.result.now c.deref-in-Some.ensures c.in-Some.otherwise c.deref-in-Some-2.result.now
    c.deref-in-Some-2.ensures (c.in-If.is ∙ ap (kinds.If c.in-If.condition c.in-If.inner) c.in-Some.is))
    c.in_ok-check_value-in-If.ensures
    (answers_last c.check_stmt-in-Some-2.result _ _ _ refl c.in_ok-check_stmt-in-Some.ensures.told
    (subst (λ l. Answers (stmt_fault (scope_seen c.args.scope.now l) (stmt_of c.deref-in-Some-2.result.now)) c.check_stmt-in-Some-2.result)
    c.in_ok-check_stmt-in-Some.ensures.kept c.check_stmt-in-Some-2.ensures.told))

pub check_stmt-returns-in-None-value-clause-told : goal.check_stmt-returns-in-None-value-clause-told
check_stmt-returns-in-None-value-clause-told t c =
    answers_as c.check_return.result _ _ (forms.return_is (scope_seen c.args.scope.now c.args.locals.now) c.args.stmt.now None
    (c.in-Return.is ∙ ap kinds.Return c.in-None-value.is)) c.check_return.ensures

pub check_stmt-returns-in-Some-value-clause-told : goal.check_stmt-returns-in-Some-value-clause-told
check_stmt-returns-in-Some-value-clause-told t c =
    let s = scope_seen c.args.scope.now c.args.locals.now in
    let e = expr_of c.in-Some-value.value in
    answers_as c.check_value-in-Some-value.result _ _ (forms.return_is s c.args.stmt.now (Some c.in-Some-value.value)
    (c.in-Return.is ∙ ap kinds.Return c.in-Some-value.is) ∙ return_told s c.args.stmt.now.place e ∙
    ap (value_told s e) (sym c.wanted_result-wanted.ensures)) c.check_value-in-Some-value.ensures

pub check_inner-returns-clause-told : goal.check_inner-returns-clause-told
check_inner-returns-clause-told t c =
    subst (λ z. Answers (stmt_fault z (stmt_of c.args.stmt.now)) c.check_stmt.result)
    (forms.loop_within (scope_seen c.args.scope.now c.args.locals.now) (scope_seen c.within-within.result c.args.locals.now)
    c.args.label.now _ (c.within-within.ensures c.args.locals.now) c.label_text.ensures)
    c.check_stmt.ensures.told

pub check_stmt-returns-in_err-check_choice-in-Switch-clause-kept : goal.check_stmt-returns-in_err-check_choice-in-Switch-clause-kept
check_stmt-returns-in_err-check_choice-in-Switch-clause-kept t c = grind (arith, common_steps)

pub check_stmt-returns-in_err-check_expr-in-Eval-clause-kept : goal.check_stmt-returns-in_err-check_expr-in-Eval-clause-kept
check_stmt-returns-in_err-check_expr-in-Eval-clause-kept t c = grind (arith, common_steps)

pub check_stmt-returns-in_err-check_inner-in-Do-clause-kept : goal.check_stmt-returns-in_err-check_inner-in-Do-clause-kept
check_stmt-returns-in_err-check_inner-in-Do-clause-kept t c = grind (arith, common_steps)

pub check_stmt-returns-in_err-check_loop-in-While-clause-kept : goal.check_stmt-returns-in_err-check_loop-in-While-clause-kept
check_stmt-returns-in_err-check_loop-in-While-clause-kept t c = grind (arith, common_steps)

pub check_stmt-returns-in_err-check_stmt-in-Some-clause-kept : goal.check_stmt-returns-in_err-check_stmt-in-Some-clause-kept
check_stmt-returns-in_err-check_stmt-in-Some-clause-kept t c = grind (arith, common_steps)

pub check_stmt-returns-in_err-check_value-in-If-clause-kept : goal.check_stmt-returns-in_err-check_value-in-If-clause-kept
check_stmt-returns-in_err-check_value-in-If-clause-kept t c = grind (arith, common_steps)
