use Rattle.std.proofs.Common.{◌≡◌, ◌+◌, Some, None, [], length, map, reverse, refl, sym, ap, ◌∙◌, arith, length-append}
use Rattle.std.specs.Prelude.{option_map}
use Rattle.std.proofs.lemmas.Result.{IfOk-weaker}
use Rattle.jv_core.specs.declared.tree.CoreStmtKind.TheVariants as S
use Rattle.jv_core.specs.View.{expr_of, stmt_of, stmts_of, group_of, groups_of}
use Rattle.use_rules.specs.Flow.{declared_here}
use Rattle.use_rules.specs.State.{joined}
use Rattle.use_flow.specs.View.{log_of}
use Rattle.use_flow.specs.inner.Followed.{seen, eval}
use Rattle.use_flow.specs.inner.Ending.{left}
use Rattle.use_flow.specs.inner.Simple.{returned}
use Rattle.use_flow.specs.inner.Listed.{declared_of}
use Rattle.use_flow.specs.inner.Stepping.{step, steps}
use Rattle.use_flow.specs.inner.Switching.{rest_of, past_of, nows_of}
use Rattle.use_flow.proofs.Answered.{IfOk-three}
use Rattle.use_flow.proofs.Forms as forms
use Rattle.use_flow.proofs.Stepping.{follows_as, none_step, quiet_follows, if_follows, if_else_follows, turned, while_follows, do_follows}
use Rattle.use_flow.proofs.Stepping.{list_follows, item_other, item_local, running_start, running_more, running_end}
use Rattle.use_flow.proofs.Grouping.{group_follows, following_start, following_more, following_end, switch_follows}
use Rattle.use_flow.proofs.scene.Scene.+statements.Goals as goal

pub step-returns-in-Block : goal.step-returns-in-Block
step-returns-in-Block t c =
    IfOk-weaker c.step_list.result _ _ (λ n a.
    forms.block_as (seen c.args.self.now) (reverse c.args.outer.now) c.args.course.now.scope.items c.args.course.now.jumps c.args.sets
    (log_of c.args.course.now.log) c.args.statement.now n _
    c.in-Block.body c.in-Block.end c.as_slice.result.now c.as_slice.ensures.items c.in-Block.is a) c.step_list.ensures

pub step-returns-in-Local : goal.step-returns-in-Local
step-returns-in-Local t c =
    IfOk-weaker c.step_local.result _ _ (λ n e.
    forms.local_as (seen c.args.self.now) (reverse c.args.outer.now) c.args.course.now.scope.items c.args.course.now.jumps c.args.sets
    (log_of c.args.course.now.log) c.args.statement.now n _ refl refl
    c.in-Local.slot c.in-Local.value c.in-Local.is e) c.step_local.ensures

pub step-returns-in-Assign : goal.step-returns-in-Assign
step-returns-in-Assign t c =
    IfOk-weaker c.step_assign.result _ _ (λ n e.
    forms.assign_as (seen c.args.self.now) (reverse c.args.outer.now) c.args.course.now.scope.items c.args.course.now.jumps c.args.sets
    (log_of c.args.course.now.log) c.args.statement.now n _ refl refl
    c.in-Assign.target c.in-Assign.value c.in-Assign.is e) c.step_assign.ensures

pub step-returns-in-Print : goal.step-returns-in-Print
step-returns-in-Print t c =
    IfOk-weaker c.step_print.result _ _ (λ n e.
    forms.print_as (seen c.args.self.now) (reverse c.args.outer.now) c.args.course.now.scope.items c.args.course.now.jumps c.args.sets
    (log_of c.args.course.now.log) c.args.statement.now n _ refl refl
    c.in-Print.value c.in-Print.is e) c.step_print.ensures

pub step-returns-in-Eval : goal.step-returns-in-Eval
step-returns-in-Eval t c =
    IfOk-weaker c.step_dropped.result _ _ (λ n e.
    forms.eval_as (seen c.args.self.now) (reverse c.args.outer.now) c.args.course.now.scope.items c.args.course.now.jumps c.args.sets
    (log_of c.args.course.now.log) c.args.statement.now n _ refl refl
    c.in-Eval.value c.in-Eval.is e) c.step_dropped.ensures

pub step-returns-in-Empty : goal.step-returns-in-Empty
step-returns-in-Empty t c = forms.empty_as (seen c.args.self.now) (reverse c.args.outer.now) c.args.course.now.scope.items
    c.args.course.now.jumps c.args.sets (log_of c.args.course.now.log) c.args.statement.now _ _ refl refl c.in-Empty.is refl refl

pub step-returns-in-While : goal.step-returns-in-While
step-returns-in-While t c =
    IfOk-weaker c.step_while.result _ _ (λ n a.
    forms.while_as (seen c.args.self.now) (reverse c.args.outer.now) c.args.course.now.scope.items c.args.course.now.jumps c.args.sets
    (log_of c.args.course.now.log) c.args.statement.now n _
    c.in-While.condition c.in-While.body c.deref-in-While.result.now c.deref-in-While.ensures c.in-While.number c.in-While.is a)
    c.step_while.ensures

pub step-returns-in-Do : goal.step-returns-in-Do
step-returns-in-Do t c =
    IfOk-weaker c.step_do.result _ _ (λ n a.
    forms.do_as (seen c.args.self.now) (reverse c.args.outer.now) c.args.course.now.scope.items c.args.course.now.jumps c.args.sets
    (log_of c.args.course.now.log) c.args.statement.now n _
    c.in-Do.condition c.in-Do.body c.deref-in-Do.result.now c.deref-in-Do.ensures c.in-Do.number c.in-Do.is a) c.step_do.ensures

pub step-returns-in_ok-sprouts-in-Switch : goal.step-returns-in_ok-sprouts-in-Switch
step-returns-in_ok-sprouts-in-Switch t c =
    IfOk-weaker c.step_switch.result _ _ (λ n a.
    forms.switch_as (seen c.args.self.now) (reverse c.args.outer.now) c.args.course.now.scope.items c.args.course.now.jumps c.args.sets
    (log_of c.args.course.now.log) c.args.statement.now n _
    c.in-Switch.value c.in-Switch.groups _ c.as_slice-groups.result.now (rest_of c.in_ok-sprouts-in-Switch.sprouts)
    (past_of c.in_ok-sprouts-in-Switch.sprouts) (nows_of c.in_ok-sprouts-in-Switch.sprouts) (log_of c.choose.new.log)
    c.as_slice-groups.ensures.items c.in-Switch.is c.in_ok-sprouts-in-Switch.ensures.nows c.in_ok-sprouts-in-Switch.ensures.rest
    c.in_ok-sprouts-in-Switch.ensures.past c.in_ok-sprouts-in-Switch.ensures.log a) c.step_switch.ensures

pub step-returns-in-Continue : goal.step-returns-in-Continue
step-returns-in-Continue t c =
    IfOk-weaker c.jump_loop-in-Continue.result _ _ (λ n a.
    forms.continue_as (seen c.args.self.now) (reverse c.args.outer.now) c.args.course.now.scope.items c.args.course.now.jumps c.args.sets
    (log_of c.args.course.now.log) c.args.statement.now n _
    c.in-Continue.number c.in-Continue.is a) c.jump_loop-in-Continue.ensures

pub step-returns-in-Some-number : goal.step-returns-in-Some-number
step-returns-in-Some-number t c =
    IfOk-weaker c.jump_loop.result _ _ (λ n a.
    forms.break_loop_as (seen c.args.self.now) (reverse c.args.outer.now) c.args.course.now.scope.items c.args.course.now.jumps c.args.sets
    (log_of c.args.course.now.log) c.args.statement.now n _
    c.in-Some-number.number (c.in-Break.is ∙ ap S.Break c.in-Some-number.is) a) c.jump_loop.ensures

pub step-returns-in-None-number : goal.step-returns-in-None-number
step-returns-in-None-number t c =
    IfOk-weaker c.jump.result _ _ (λ n a.
    forms.break_as (seen c.args.self.now) (reverse c.args.outer.now) c.args.course.now.scope.items c.args.course.now.jumps c.args.sets
    (log_of c.args.course.now.log) c.args.statement.now n _
    c.args.outer.now refl (c.in-Break.is ∙ ap S.Break c.in-None-number.is) a) c.jump.ensures

pub step_now-returns-in-Some : goal.step_now-returns-in-Some
step_now-returns-in-Some t c =
    IfOk-weaker c.step.result _ _ (λ n a.
    follows_as _ _ _ _ n _ (ap (λ y. step (seen c.args.self.now) (reverse c.args.course.now.scope.items) (reverse c.args.outer.now)
    (stmt_of c.args.statement.now) y (log_of c.args.course.now.log))
    (sym c.in-Some.is)) a) c.step.ensures

pub step_now-returns-in-None : goal.step_now-returns-in-None
step_now-returns-in-None t c =
    quiet_follows _ c.args.course.now.scope.items c.args.course.now.jumps None c.args.course.now
    (none_step (seen c.args.self.now) (reverse c.args.course.now.scope.items) (reverse c.args.outer.now) (stmt_of c.args.statement.now)
    c.args.now (log_of c.args.course.now.log) c.in-None.is) refl refl

pub step_body-returns : goal.step_body-returns
step_body-returns t c =
    turned c.args.number (step (seen c.args.self.now) (reverse c.args.course.now.scope.items) (reverse c.args.outer.now)
    (stmt_of c.args.body.now) c.args.now (log_of c.args.course.now.log)) c.args.course.now.scope.items c.args.course.now.jumps
    c.set_aside-around.new.self c.set_aside-inside.new.self
    c.set_aside-around.result c.set_aside-inside.result c.in_ok-now.now c.in_ok-end.end c.step_now.new.course _
    (record {
      around-behind = c.set_aside-around.ensures.behind;
      around-on = c.set_aside-around.ensures.going_on;
      starts = c.set_aside-around.ensures.left;
      inside-behind = c.set_aside-inside.ensures.behind;
      inside-on = c.set_aside-inside.ensures.going_on;
      cuts = c.set_aside-inside.ensures.left;
      ends = c.in_ok-put_back.ensures;
    }) c.in_ok-end.ensures refl refl c.in_ok-now.ensures

pub step_while-returns : goal.step_while-returns
step_while-returns t c =
    IfOk-weaker c.meet.result _ _ (λ m em.
    while_follows (seen c.args.self.now) (reverse c.args.outer.now) c.args.course.now.scope.items c.args.number
    (expr_of c.args.condition.now) (stmt_of c.args.body.now) c.args.sets c.at_head.new.sets
    (log_of c.args.course.now.log) (log_of c.send_heads.new.log) (log_of c.eval_ways.new.log) c.args.course.now.jumps
    m c.in_ok-end.end c.in_ok-end.behind c.step_body.new.course _
    c.in_ok-send_heads.ensures c.in_ok-at_head.ensures refl refl
    c.in_ok-holds.holds c.in_ok-holds.fails c.in_ok-holds.ensures c.in_ok-end.ensures c.in_ok-send_end.ensures em) c.meet.ensures

pub step_do-returns : goal.step_do-returns
step_do-returns t c =
    IfOk-weaker c.meet.result _ _ (λ m em.
    do_follows (seen c.args.self.now) (reverse c.args.outer.now) c.args.course.now.scope.items c.args.number
    (expr_of c.args.condition.now) (stmt_of c.args.body.now) c.args.sets c.at_head.new.sets
    (log_of c.args.course.now.log) (log_of c.send_heads.new.log) (log_of c.eval_ways.new.log) c.args.course.now.jumps
    m c.in_ok-end.end c.in_ok-end.behind c.step_body.new.course _
    c.in_ok-send_heads.ensures c.in_ok-at_head.ensures refl refl
    c.in_ok-again.again c.in_ok-again.fails c.in_ok-end.ensures c.in_ok-again.ensures c.in_ok-send_end.ensures em) c.meet.ensures

pub step_list-end_scope-requires : goal.step_list-end_scope-requires
step_list-end_scope-requires t c =
    let e : length c.steps.new.course.scope.items ≡ length c.args.course.now.scope.items + length
    (declared_here (stmts_of (map stmt_of c.args.body.now))) =
    ap length c.in_ok-now.ensures.scope-is ∙ length-append c.args.course.now.scope.items
    (declared_here (stmts_of (map stmt_of c.args.body.now))) in
    omega (arith, e, c.len-depth.ensures)

pub step_list-returns : goal.step_list-returns
step_list-returns t c =
    let f = steps (seen c.args.self.now) (reverse c.args.course.now.scope.items) (reverse c.args.outer.now)
    (stmts_of (map stmt_of c.args.body.now)) c.args.now (log_of c.args.course.now.log) in
    IfOk-three c.end_scope.result _ _ _ _ (λ m ex es ej.
    list_follows (seen c.args.self.now) c.args.end f
    c.args.course.now.scope.items (declared_here (stmts_of (map stmt_of c.args.body.now))) c.len-depth.result c.args.course.now.jumps
    c.in_ok-now.now m c.steps.new.course
    c.end_scope.new.course (let k : c.len-depth.result ≡ length c.args.course.now.scope.items = omega (arith, c.len-depth.ensures) in k)
    c.in_ok-now.ensures ex es ej) (c.end_scope.ensures.flows f.jumps) c.end_scope.ensures.scope c.end_scope.ensures.jumps

pub steps-loop-statement-init : goal.steps-loop-statement-init
steps-loop-statement-init t c =
    running_start (seen c.args.self.now) (reverse c.args.outer.now) (stmts_of (map stmt_of c.args.body.now)) c.args.now c.args.course.now

pub steps-loop-statement-preserved : goal.steps-loop-statement-preserved
steps-loop-statement-preserved t c =
    running_more (seen c.args.self.now) (reverse c.args.outer.now) _ _ c.args.course.now.jumps c.args.body.now
    c.loop-statement.statement-index c.loop-statement.now c.loop-statement.course
    c.statement-item.result c.in_ok-now.now c.step_item.new.course c.loop-statement-test.true c.statement-item.is c.in_ok-now.ensures
    c.loop-statement.invariant

pub steps-returns : goal.steps-returns
steps-returns t c =
    running_end (seen c.args.self.now) (reverse c.args.outer.now) _ _ c.args.course.now.jumps c.args.body.now
    c.loop-statement.statement-index c.loop-statement.now c.loop-statement.course
    c.loop-statement-test.false c.loop-statement.invariant

pub step_switch-returns : goal.step_switch-returns
step_switch-returns t c =
    IfOk-weaker c.meet-2.result _ _ (λ m em.
    switch_follows (seen c.args.self.now) c.args.course.now.scope.items (rest_of c.args.sprouts) (past_of c.args.sprouts)
    (nows_of c.args.sprouts) (groups_of (map group_of c.args.groups.now))
    (log_of c.args.course.now.log) c.args.course.now.jumps c.take-around.new.self c.take-inside.new.self c.take-around.result
    c.take-inside.result c.in_ok-now.now c.in_ok-end.end m c.step_groups.new.course _
    c.take-around.ensures.was c.take-around.ensures.left c.in_ok-now.ensures c.take-inside.ensures.was c.take-inside.ensures.left
    c.in_ok-put.ensures refl refl
    (c.in_ok-end.ensures ∙ ap (joined c.in_ok-now.now) c.in_ok-past.ensures) em) c.meet-2.ensures

pub step_groups-loop-group-init : goal.step_groups-loop-group-init
step_groups-loop-group-init t c =
    following_start (seen c.args.self.now) (rest_of c.args.sprouts.now) (nows_of c.args.sprouts.now) (groups_of (map group_of c.args.groups.now))
    None c.args.course.now

pub step_groups-loop-group-preserved : goal.step_groups-loop-group-preserved
step_groups-loop-group-preserved t c =
    following_more (seen c.args.self.now) c.args.course.now.scope.items (rest_of c.args.sprouts.now) (nows_of c.args.sprouts.now) _
    c.args.course.now.jumps c.args.groups.now c.loop-group.group-index
    c.loop-group.now c.loop-group.course c.group-item.result c.as_slice-in-loop-group.result.now c.in_ok-now.now c.step_group.new.course
    c.loop-group-test.true c.group-item.is
    (c.as_slice-in-loop-group.ensures.value ∙ c.in_ok-outer.ensures.items ∙ c.as_slice.ensures.value) c.in_ok-now.ensures c.loop-group.invariant

pub step_groups-returns : goal.step_groups-returns
step_groups-returns t c =
    following_end (seen c.args.self.now) c.args.course.now.scope.items (rest_of c.args.sprouts.now) (nows_of c.args.sprouts.now) _
    c.args.course.now.jumps c.args.groups.now c.loop-group.group-index
    c.loop-group.now c.loop-group.course c.loop-group-test.false c.loop-group.invariant

pub step_group-returns : goal.step_group-returns
step_group-returns t c =
    IfOk-weaker c.step_list.result _ _ (λ n a.
    group_follows (seen c.args.self.now) (reverse c.args.outer.now) c.args.course.now.scope.items (rest_of c.args.sprouts.now)
    (nows_of c.args.sprouts.now) c.args.group.now c.as_slice-body.result.now
    c.as_slice.result.now c.args.before c.in_ok-entry.entry c.in_ok-start.start (log_of c.args.course.now.log) c.args.course.now.jumps
    n c.step_list.new.course
    c.as_slice-body.ensures.items c.as_slice.ensures.items (c.in_ok-entry.ensures (seen c.args.self.now)) c.in_ok-start.ensures
    a) c.step_list.ensures

pub step_item-returns-in-None : goal.step_item-returns-in-None
step_item-returns-in-None t c =
    IfOk-weaker c.step_now.result _ _ (λ n a.
    item_other (seen c.args.self.now) (reverse c.args.outer.now) c.args.course.now.scope.items (stmt_of c.args.statement.now) c.args.now
    (log_of c.args.course.now.log) c.args.course.now.jumps
    n _ (ap (option_map declared_of) (sym c.in-None.is) ∙ c.local_in.ensures) a) c.step_now.ensures

pub step-returns-in-None : goal.step-returns-in-None
step-returns-in-None t c =
    IfOk-weaker c.meet-in-None.result _ _ (λ m e.
    forms.if_as (seen c.args.self.now) (reverse c.args.outer.now) c.args.course.now.scope.items c.args.course.now.jumps c.args.sets
    (log_of c.args.course.now.log) c.args.statement.now m _
    c.in-If.condition c.in-If.then c.deref.result.now c.deref.ensures (c.in-If.is ∙ ap (S.If c.in-If.condition c.in-If.then) c.in-None.is)
    (if_follows (seen c.args.self.now) (reverse c.args.outer.now) c.args.course.now.scope.items c.args.course.now.jumps
    (stmt_of c.deref.result.now) (eval (seen c.args.self.now) 0 (expr_of c.in-If.condition) (Some c.args.sets)
    (log_of c.args.course.now.log))
    c.in_ok-holds-in-If.holds c.in_ok-holds-in-If.fails c.in_ok-now-in-If.now m (log_of c.eval_ways.new.log) _ c.in_ok-holds-in-If.ensures
    c.in_ok-now-in-If.ensures e)) c.meet-in-None.ensures

pub step-returns-in_ok-other_now-in-Some : goal.step-returns-in_ok-other_now-in-Some
step-returns-in_ok-other_now-in-Some t c =
    IfOk-weaker c.meet.result _ _ (λ m e.
    forms.if_else_as (seen c.args.self.now) (reverse c.args.outer.now) c.args.course.now.scope.items c.args.course.now.jumps c.args.sets
    (log_of c.args.course.now.log) c.args.statement.now m _
    c.in-If.condition c.in-If.then c.deref.result.now c.deref.ensures c.in-Some.other c.deref-in-Some.result.now c.deref-in-Some.ensures
    (c.in-If.is ∙ ap (S.If c.in-If.condition c.in-If.then) c.in-Some.is)
    (if_else_follows (seen c.args.self.now) (reverse c.args.outer.now) c.args.course.now.scope.items c.args.course.now.jumps
    (stmt_of c.deref.result.now) (stmt_of c.deref-in-Some.result.now)
    (eval (seen c.args.self.now) 0 (expr_of c.in-If.condition) (Some c.args.sets) (log_of c.args.course.now.log))
    c.in_ok-holds-in-If.holds c.in_ok-holds-in-If.fails c.in_ok-now-in-If.now c.in_ok-other_now-in-Some.other_now m
    (log_of c.eval_ways.new.log) c.step_now.new.course _
    c.in_ok-holds-in-If.ensures c.in_ok-now-in-If.ensures c.in_ok-other_now-in-Some.ensures e)) c.meet.ensures

pub step-returns-in_ok-step_return-in-Some-value : goal.step-returns-in_ok-step_return-in-Some-value
step-returns-in_ok-step_return-in-Some-value t c =
    forms.return_as (seen c.args.self.now) (reverse c.args.outer.now) c.args.course.now.scope.items c.args.course.now.jumps c.args.sets
    (log_of c.args.course.now.log) c.args.statement.now None
    (record { scope = c.args.course.now.scope; jumps = c.args.course.now.jumps; log = c.step_return.new.log }) refl refl
    c.in-Some-value.value (c.in-Return.is ∙ ap S.Return c.in-Some-value.is) refl (c.in_ok-step_return-in-Some-value.ensures
    ∙ ap (λ y. returned (seen c.args.self.now) c.args.statement.now.place (expr_of c.in-Some-value.value) (reverse y) c.args.sets
    (log_of c.args.course.now.log)) c.as_slice-scope.ensures.value)

pub step-returns-in_ok-step_leave-in-None-value : goal.step-returns-in_ok-step_leave-in-None-value
step-returns-in_ok-step_leave-in-None-value t c =
    forms.leave_as (seen c.args.self.now) (reverse c.args.outer.now) c.args.course.now.scope.items c.args.course.now.jumps c.args.sets
    (log_of c.args.course.now.log) c.args.statement.now None
    (record { scope = c.args.course.now.scope; jumps = c.args.course.now.jumps; log = c.step_leave.new.log }) refl refl
    (c.in-Return.is ∙ ap S.Return c.in-None-value.is) refl (c.in_ok-step_leave-in-None-value.ensures
    ∙ ap (λ y. left (seen c.args.self.now) c.args.statement.now.place None [] (reverse y) (Some c.args.sets) (log_of c.args.course.now.log))
    c.as_slice-scope-in-None-value.ensures.value)

pub step_item-returns-in_ok-push-in-Some : goal.step_item-returns-in_ok-push-in-Some
step_item-returns-in_ok-push-in-Some t c =
    item_local (seen c.args.self.now) (reverse c.args.outer.now) c.args.course.now.scope.items (stmt_of c.args.statement.now) c.args.now
    (log_of c.args.course.now.log) c.args.course.now.jumps
    c.in_ok-behind-in-Some.behind _ (declared_of c.in-Some.declared) (ap (option_map declared_of) (sym c.in-Some.is) ∙ c.local_in.ensures)
    c.in_ok-behind-in-Some.ensures c.in_ok-push-in-Some.ensures.items refl
