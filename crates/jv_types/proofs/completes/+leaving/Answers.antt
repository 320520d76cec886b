use Rattle.std.proofs.Common.{◌≡◌, ◌||◌, not, map, true, false, IfOk, OnOk, refl, sym, ap, subst, ◌∙◌, arith}
use Rattle.std.proofs.lemmas.Grind.{common_steps}
use Rattle.std.specs.Option.{option_map}
use Rattle.jv_tree.specs.declared.tree.StmtKind.TheVariants as kinds
use Rattle.jv_tree.specs.Source.{Return}
use Rattle.jv_tree.specs.View.{expr_of, stmt_of, stmts_of, group_of, groups_of}
use Rattle.jv_tree.proofs.ViewLaws as laws
use Rattle.jv_rules.specs.Completes.{Through}
use Rattle.jv_rules.specs.inner.Leaving.{leaves}
use Rattle.jv_types.specs.inner.Exits.{Adds, met_at}
use Rattle.jv_types.proofs.ExitSteps.{adds_nothing, adds_more, break_adds, continue_adds}
use Rattle.jv_types.proofs.Leaving.{stmt_is, left_start, left_more, left_stop, left_done, groups_start, groups_more, groups_done}
use Rattle.jv_types.proofs.LeaveForms as forms
use Rattle.jv_types.proofs.completes.+leaving.Goals as goal

pub leave_stmt-returns-in-Block-clause-through : goal.leave_stmt-returns-in-Block-clause-through
leave_stmt-returns-in-Block-clause-through t c =
    subst (λ s. IfOk c.leave_stmts.result (λ b. b ≡ leaves s Through)) (forms.block_is c.args.stmt.now c.in-Block.body _ c.in-Block.is
    c.as_slice.result.now c.as_slice.ensures.items) c.leave_stmts.ensures.through

pub leave_stmt-returns-in-Block-clause-exits : goal.leave_stmt-returns-in-Block-clause-exits
leave_stmt-returns-in-Block-clause-exits t c =
    subst (λ s. OnOk c.leave_stmts.result (Adds (leaves s) (met_at c.args.exits.now) (met_at c.leave_stmts.new.exits)))
    (forms.block_is c.args.stmt.now c.in-Block.body _ c.in-Block.is c.as_slice.result.now c.as_slice.ensures.items)
    c.leave_stmts.ensures.exits

pub leave_stmt-returns-in-None-clause-through : goal.leave_stmt-returns-in-None-clause-through
leave_stmt-returns-in-None-clause-through t c =
    subst (λ s. true ≡ leaves s Through) (forms.if_is c.args.stmt.now c.in-If.field-0 c.in-If.inner c.deref.result.now c.deref.ensures
    (c.in-If.is ∙ ap (kinds.If c.in-If.field-0 c.in-If.inner) c.in-None.is))
    refl

pub leave_stmt-returns-in-None-clause-exits : goal.leave_stmt-returns-in-None-clause-exits
leave_stmt-returns-in-None-clause-exits t c =
    subst (λ s. Adds (leaves s) (met_at c.args.exits.now) (met_at c.leave_stmt.new.exits))
    (forms.if_is c.args.stmt.now c.in-If.field-0 c.in-If.inner c.deref.result.now c.deref.ensures
    (c.in-If.is ∙ ap (kinds.If c.in-If.field-0 c.in-If.inner) c.in-None.is))
    c.in_ok-completes-in-If.ensures.exits

pub leave_stmt-returns-in_ok-other-in-Some-clause-through : goal.leave_stmt-returns-in_ok-other-in-Some-clause-through
leave_stmt-returns-in_ok-other-in-Some-clause-through t c =
    subst (λ s. c.either.result ≡ leaves s Through) (forms.if_else_is c.args.stmt.now c.in-If.field-0 c.in-If.inner c.deref.result.now
    c.deref.ensures c.in-Some.otherwise c.deref-in-Some.result.now c.deref-in-Some.ensures
    (c.in-If.is ∙ ap (kinds.If c.in-If.field-0 c.in-If.inner) c.in-Some.is))
    (c.either.ensures ∙ ap (λ b. b || c.in_ok-other-in-Some.other) c.in_ok-completes-in-If.ensures.through ∙
    ap (λ b. leaves (stmt_of c.deref.result.now) Through || b) c.in_ok-other-in-Some.ensures.through)

pub leave_stmt-returns-in_ok-other-in-Some-clause-exits : goal.leave_stmt-returns-in_ok-other-in-Some-clause-exits
leave_stmt-returns-in_ok-other-in-Some-clause-exits t c =
    subst (λ s. Adds (leaves s) (met_at c.args.exits.now) (met_at c.leave_stmt-in-Some.new.exits))
    (forms.if_else_is c.args.stmt.now c.in-If.field-0 c.in-If.inner c.deref.result.now c.deref.ensures c.in-Some.otherwise
    c.deref-in-Some.result.now c.deref-in-Some.ensures (c.in-If.is ∙ ap (kinds.If c.in-If.field-0 c.in-If.inner) c.in-Some.is))
    (adds_more (leaves (stmt_of c.deref.result.now)) (leaves (stmt_of c.deref-in-Some.result.now)) (met_at c.args.exits.now)
    (met_at c.leave_stmt.new.exits) (met_at c.leave_stmt-in-Some.new.exits) c.in_ok-completes-in-If.ensures.exits
    c.in_ok-other-in-Some.ensures.exits)

pub leave_stmt-returns-in_ok-jumps-in-While-clause-through : goal.leave_stmt-returns-in_ok-jumps-in-While-clause-through
leave_stmt-returns-in_ok-jumps-in-While-clause-through t c =
    subst (λ s. c.either-in-While.result ≡ leaves s Through) (forms.while_is c.args.stmt.now c.in-While.condition c.in-While.inner
    c.deref-in-While.result.now c.deref-in-While.ensures c.in-While.label (option_map (λ n. n.now) c.label_text-label.result)
    c.label_text-label.ensures c.in-While.is)
    (forms.while_left c.args.stmt.now.place (option_map (λ n. n.now) c.label_text-label.result) (expr_of c.in-While.condition)
    (stmt_of c.deref-in-While.result.now) (met_at c.args.exits.now) (met_at c.enter_loop.new.self)
    (met_at c.leave_stmt-in-While.new.exits) (met_at c.leave_loop.new.self)
    c.in_ok-hidden-in-While.hidden c.in_ok-jumps-in-While.jumps c.in_ok-hidden-in-While.ensures.met
    c.in_ok-leave_stmt-in-While.ensures.exits c.in_ok-jumps-in-While.ensures.met
    c.in_ok-hidden-in-While.ensures.plain c.in_ok-hidden-in-While.ensures.labelled c.in_ok-jumps-in-While.ensures.inner c.either-in-While.result
    (c.either-in-While.ensures ∙ ap (λ b. not b || c.in_ok-jumps-in-While.jumps.breaks) c.is_always_true.ensures)).0

pub leave_stmt-returns-in_ok-jumps-in-While-clause-exits : goal.leave_stmt-returns-in_ok-jumps-in-While-clause-exits
leave_stmt-returns-in_ok-jumps-in-While-clause-exits t c =
    subst (λ s. Adds (leaves s) (met_at c.args.exits.now) (met_at c.leave_loop.new.self))
    (forms.while_is c.args.stmt.now c.in-While.condition c.in-While.inner c.deref-in-While.result.now c.deref-in-While.ensures
    c.in-While.label (option_map (λ n. n.now) c.label_text-label.result) c.label_text-label.ensures c.in-While.is)
    (forms.while_left c.args.stmt.now.place (option_map (λ n. n.now) c.label_text-label.result) (expr_of c.in-While.condition)
    (stmt_of c.deref-in-While.result.now) (met_at c.args.exits.now) (met_at c.enter_loop.new.self)
    (met_at c.leave_stmt-in-While.new.exits) (met_at c.leave_loop.new.self)
    c.in_ok-hidden-in-While.hidden c.in_ok-jumps-in-While.jumps c.in_ok-hidden-in-While.ensures.met
    c.in_ok-leave_stmt-in-While.ensures.exits c.in_ok-jumps-in-While.ensures.met
    c.in_ok-hidden-in-While.ensures.plain c.in_ok-hidden-in-While.ensures.labelled c.in_ok-jumps-in-While.ensures.inner c.either-in-While.result
    (c.either-in-While.ensures ∙ ap (λ b. not b || c.in_ok-jumps-in-While.jumps.breaks) c.is_always_true.ensures)).1

pub leave_stmt-returns-in_ok-jumps-in-Do-clause-through : goal.leave_stmt-returns-in_ok-jumps-in-Do-clause-through
leave_stmt-returns-in_ok-jumps-in-Do-clause-through t c =
    subst (λ s. c.ends_do.result ≡ leaves s Through) (forms.do_is c.args.stmt.now c.in-Do.condition c.in-Do.inner c.deref-in-Do.result.now
    c.deref-in-Do.ensures c.in-Do.label (option_map (λ n. n.now) c.label_text-label-in-Do.result) c.label_text-label-in-Do.ensures
    c.in-Do.is)
    (forms.do_left c.args.stmt.now.place (option_map (λ n. n.now) c.label_text-label-in-Do.result) (expr_of c.in-Do.condition)
    (stmt_of c.deref-in-Do.result.now) (met_at c.args.exits.now) (met_at c.enter_loop-in-Do.new.self)
    (met_at c.leave_stmt-in-Do.new.exits) (met_at c.leave_loop-in-Do.new.self)
    c.in_ok-hidden-in-Do.hidden c.in_ok-jumps-in-Do.jumps c.in_ok-hidden-in-Do.ensures.met c.in_ok-completes-in-Do.ensures.exits
    c.in_ok-jumps-in-Do.ensures.met
    c.in_ok-hidden-in-Do.ensures.plain c.in_ok-hidden-in-Do.ensures.labelled c.in_ok-jumps-in-Do.ensures.inner c.ends_do.result
    c.in_ok-completes-in-Do.completes c.ends_do.ensures c.in_ok-completes-in-Do.ensures.through).0

pub leave_stmt-returns-in_ok-jumps-in-Do-clause-exits : goal.leave_stmt-returns-in_ok-jumps-in-Do-clause-exits
leave_stmt-returns-in_ok-jumps-in-Do-clause-exits t c =
    subst (λ s. Adds (leaves s) (met_at c.args.exits.now) (met_at c.leave_loop-in-Do.new.self))
    (forms.do_is c.args.stmt.now c.in-Do.condition c.in-Do.inner c.deref-in-Do.result.now c.deref-in-Do.ensures c.in-Do.label
    (option_map (λ n. n.now) c.label_text-label-in-Do.result) c.label_text-label-in-Do.ensures c.in-Do.is)
    (forms.do_left c.args.stmt.now.place (option_map (λ n. n.now) c.label_text-label-in-Do.result) (expr_of c.in-Do.condition)
    (stmt_of c.deref-in-Do.result.now) (met_at c.args.exits.now) (met_at c.enter_loop-in-Do.new.self)
    (met_at c.leave_stmt-in-Do.new.exits) (met_at c.leave_loop-in-Do.new.self)
    c.in_ok-hidden-in-Do.hidden c.in_ok-jumps-in-Do.jumps c.in_ok-hidden-in-Do.ensures.met c.in_ok-completes-in-Do.ensures.exits
    c.in_ok-jumps-in-Do.ensures.met
    c.in_ok-hidden-in-Do.ensures.plain c.in_ok-hidden-in-Do.ensures.labelled c.in_ok-jumps-in-Do.ensures.inner c.ends_do.result
    c.in_ok-completes-in-Do.completes c.ends_do.ensures c.in_ok-completes-in-Do.ensures.through).1

pub leave_stmt-returns-in_ok-completes-in-Switch-clause-through : goal.leave_stmt-returns-in_ok-completes-in-Switch-clause-through
leave_stmt-returns-in_ok-completes-in-Switch-clause-through t c =
    subst (λ s. c.either-in-Switch.result ≡ leaves s Through) (forms.switch_is c.args.stmt.now c.in-Switch.field-0 c.in-Switch.groups
    c.in-Switch.field-2 c.as_slice-groups.result.now c.in-Switch.is c.as_slice-groups.ensures.items)
    (forms.switch_left c.args.stmt.now.place (expr_of c.in-Switch.field-0) (groups_of (map group_of c.as_slice-groups.result.now))
    c.in-Switch.field-2 (met_at c.args.exits.now) (met_at c.enter_switch-hidden.new.self) (met_at c.leave_groups.new.exits)
    (met_at c.leave_switch-broken.new.self)
    c.enter_switch-hidden.result c.enter_switch-hidden.ensures.met c.in_ok-completes-in-Switch.ensures.exits
    c.leave_switch-broken.ensures.met c.enter_switch-hidden.ensures.hidden
    c.either-in-Switch.result c.in_ok-completes-in-Switch.completes c.leave_switch-broken.result
    (c.either-in-Switch.ensures ∙ ap (λ b. not c.has_default.result || b) c.either-ends.ensures
    ∙ ap (λ b. not b || (c.in_ok-completes-in-Switch.completes || c.leave_switch-broken.result)) c.has_default.ensures)
    c.in_ok-completes-in-Switch.ensures.last c.leave_switch-broken.ensures.inner).0

pub leave_stmt-returns-in_ok-completes-in-Switch-clause-exits : goal.leave_stmt-returns-in_ok-completes-in-Switch-clause-exits
leave_stmt-returns-in_ok-completes-in-Switch-clause-exits t c =
    subst (λ s. Adds (leaves s) (met_at c.args.exits.now) (met_at c.leave_switch-broken.new.self))
    (forms.switch_is c.args.stmt.now c.in-Switch.field-0 c.in-Switch.groups c.in-Switch.field-2 c.as_slice-groups.result.now
    c.in-Switch.is c.as_slice-groups.ensures.items)
    (forms.switch_left c.args.stmt.now.place (expr_of c.in-Switch.field-0) (groups_of (map group_of c.as_slice-groups.result.now))
    c.in-Switch.field-2 (met_at c.args.exits.now) (met_at c.enter_switch-hidden.new.self) (met_at c.leave_groups.new.exits)
    (met_at c.leave_switch-broken.new.self)
    c.enter_switch-hidden.result c.enter_switch-hidden.ensures.met c.in_ok-completes-in-Switch.ensures.exits
    c.leave_switch-broken.ensures.met c.enter_switch-hidden.ensures.hidden
    c.either-in-Switch.result c.in_ok-completes-in-Switch.completes c.leave_switch-broken.result
    (c.either-in-Switch.ensures ∙ ap (λ b. not c.has_default.result || b) c.either-ends.ensures
    ∙ ap (λ b. not b || (c.in_ok-completes-in-Switch.completes || c.leave_switch-broken.result)) c.has_default.ensures)
    c.in_ok-completes-in-Switch.ensures.last c.leave_switch-broken.ensures.inner).1

pub leave_stmt-returns-in_ok-add-in-Break-clause-through : goal.leave_stmt-returns-in_ok-add-in-Break-clause-through
leave_stmt-returns-in_ok-add-in-Break-clause-through t c =
    subst (λ s. false ≡ leaves s Through) (forms.break_is c.args.stmt.now c.in-Break.label (option_map (λ n. n.now) c.label_text.result)
    c.label_text.ensures c.in-Break.is)
    refl

pub leave_stmt-returns-in_ok-add-in-Break-clause-exits : goal.leave_stmt-returns-in_ok-add-in-Break-clause-exits
leave_stmt-returns-in_ok-add-in-Break-clause-exits t c =
    subst (λ s. Adds (leaves s) (met_at c.args.exits.now) (met_at c.add.new.self)) (forms.break_is c.args.stmt.now c.in-Break.label
    (option_map (λ n. n.now) c.label_text.result) c.label_text.ensures c.in-Break.is)
    (break_adds (met_at c.args.exits.now) (met_at c.add.new.self) (option_map (λ n. n.now) c.label_text.result)
    c.in_ok-add-in-Break.ensures)

pub leave_stmt-returns-in_ok-add-in-Continue-clause-through : goal.leave_stmt-returns-in_ok-add-in-Continue-clause-through
leave_stmt-returns-in_ok-add-in-Continue-clause-through t c =
    subst (λ s. false ≡ leaves s Through) (forms.continue_is c.args.stmt.now c.in-Continue.label
    (option_map (λ n. n.now) c.label_text-in-Continue.result) c.label_text-in-Continue.ensures c.in-Continue.is)
    refl

pub leave_stmt-returns-in_ok-add-in-Continue-clause-exits : goal.leave_stmt-returns-in_ok-add-in-Continue-clause-exits
leave_stmt-returns-in_ok-add-in-Continue-clause-exits t c =
    subst (λ s. Adds (leaves s) (met_at c.args.exits.now) (met_at c.add-in-Continue.new.self))
    (forms.continue_is c.args.stmt.now c.in-Continue.label (option_map (λ n. n.now) c.label_text-in-Continue.result)
    c.label_text-in-Continue.ensures c.in-Continue.is)
    (continue_adds (met_at c.args.exits.now) (met_at c.add-in-Continue.new.self) (option_map (λ n. n.now) c.label_text-in-Continue.result)
    c.in_ok-add-in-Continue.ensures)

pub leave_stmt-returns-in-Return-clause-through : goal.leave_stmt-returns-in-Return-clause-through
leave_stmt-returns-in-Return-clause-through t c =
    subst (λ s. false ≡ leaves s Through) (stmt_is c.args.stmt.now _ _ c.in-Return.is (laws.kind-Return _ _))
    refl

pub leave_stmt-returns-in-Return-clause-exits : goal.leave_stmt-returns-in-Return-clause-exits
leave_stmt-returns-in-Return-clause-exits t c =
    subst (λ s. Adds (leaves s) (met_at c.args.exits.now) (met_at c.args.exits.now))
    (stmt_is c.args.stmt.now _ _ c.in-Return.is (laws.kind-Return _ _))
    (adds_nothing (leaves (Return c.args.stmt.now.place (option_map expr_of c.in-Return.field-0))) (met_at c.args.exits.now) (λ l. refl))

pub leave_stmt-returns-in-Print-clause-through : goal.leave_stmt-returns-in-Print-clause-through
leave_stmt-returns-in-Print-clause-through t c = (forms.spoken_left c.args.stmt.now (met_at c.args.exits.now) c.in-Print.is).0

pub leave_stmt-returns-in-Print-clause-exits : goal.leave_stmt-returns-in-Print-clause-exits
leave_stmt-returns-in-Print-clause-exits t c = (forms.spoken_left c.args.stmt.now (met_at c.args.exits.now) c.in-Print.is).1

pub leave_stmt-returns-in-Empty-clause-through : goal.leave_stmt-returns-in-Empty-clause-through
leave_stmt-returns-in-Empty-clause-through t c = (forms.silent_left c.args.stmt.now (met_at c.args.exits.now) c.in-Empty.is).0

pub leave_stmt-returns-in-Empty-clause-exits : goal.leave_stmt-returns-in-Empty-clause-exits
leave_stmt-returns-in-Empty-clause-exits t c = (forms.silent_left c.args.stmt.now (met_at c.args.exits.now) c.in-Empty.is).1

pub leave_stmts-loop-stmt-init : goal.leave_stmts-loop-stmt-init
leave_stmts-loop-stmt-init t c = left_start (stmts_of (map stmt_of c.args.stmts.now)) (met_at c.args.exits.now)

pub leave_stmts-loop-stmt-preserved : goal.leave_stmts-loop-stmt-preserved
leave_stmts-loop-stmt-preserved t c =
    left_more (stmts_of (map stmt_of c.args.stmts.now)) (met_at c.args.exits.now) (met_at c.loop-stmt.exits) c.args.stmts.now
    c.loop-stmt.stmt-index c.stmt-item.result c.loop-stmt-test.true c.stmt-item.is (met_at c.leave_stmt.new.exits) c.loop-stmt.invariant
    c.in_ok-completes.ensures.exits (sym c.in_ok-completes.ensures.through ∙ c.if-not-completes.false)

pub leave_stmts-returns-then-not-completes-clause-through : goal.leave_stmts-returns-then-not-completes-clause-through
leave_stmts-returns-then-not-completes-clause-through t c =
    sym (left_stop (stmts_of (map stmt_of c.args.stmts.now)) (met_at c.args.exits.now) (met_at c.loop-stmt.exits) c.args.stmts.now
    c.loop-stmt.stmt-index c.stmt-item.result c.loop-stmt-test.true c.stmt-item.is (met_at c.leave_stmt.new.exits) c.loop-stmt.invariant
    c.in_ok-completes.ensures.exits (sym c.in_ok-completes.ensures.through ∙ c.if-not-completes.true)).0

pub leave_stmts-returns-clause-through : goal.leave_stmts-returns-clause-through
leave_stmts-returns-clause-through t c =
    sym (left_done (stmts_of (map stmt_of c.args.stmts.now)) (met_at c.args.exits.now) (met_at c.loop-stmt.exits) c.args.stmts.now
    c.loop-stmt.stmt-index c.loop-stmt-test.false c.loop-stmt.invariant).0

pub leave_stmts-returns-then-not-completes-clause-exits : goal.leave_stmts-returns-then-not-completes-clause-exits
leave_stmts-returns-then-not-completes-clause-exits t c =
    (left_stop (stmts_of (map stmt_of c.args.stmts.now)) (met_at c.args.exits.now) (met_at c.loop-stmt.exits) c.args.stmts.now
    c.loop-stmt.stmt-index c.stmt-item.result c.loop-stmt-test.true c.stmt-item.is (met_at c.leave_stmt.new.exits) c.loop-stmt.invariant
    c.in_ok-completes.ensures.exits (sym c.in_ok-completes.ensures.through ∙ c.if-not-completes.true)).1

pub leave_stmts-returns-clause-exits : goal.leave_stmts-returns-clause-exits
leave_stmts-returns-clause-exits t c =
    (left_done (stmts_of (map stmt_of c.args.stmts.now)) (met_at c.args.exits.now) (met_at c.loop-stmt.exits) c.args.stmts.now
    c.loop-stmt.stmt-index c.loop-stmt-test.false c.loop-stmt.invariant).1

pub leave_groups-loop-group-init : goal.leave_groups-loop-group-init
leave_groups-loop-group-init t c = groups_start (groups_of (map group_of c.args.groups.now)) (met_at c.args.exits.now)

pub leave_groups-loop-group-preserved : goal.leave_groups-loop-group-preserved
leave_groups-loop-group-preserved t c =
    groups_more c.args.groups.now c.loop-group.group-index c.group-item.result c.loop-group-test.true c.group-item.is
    (groups_of (map group_of c.args.groups.now)) (met_at c.args.exits.now) (met_at c.loop-group.exits) (met_at c.leave_stmts.new.exits)
    c.loop-group.last c.in_ok-last.last
    c.as_slice.result.now c.as_slice.ensures.items c.loop-group.invariant c.in_ok-last.ensures.through c.in_ok-last.ensures.exits

pub leave_groups-returns-clause-last : goal.leave_groups-returns-clause-last
leave_groups-returns-clause-last t c =
    sym (groups_done c.args.groups.now c.loop-group.group-index c.loop-group-test.false (groups_of (map group_of c.args.groups.now))
    (met_at c.args.exits.now) (met_at c.loop-group.exits) c.loop-group.last c.loop-group.invariant).0

pub leave_groups-returns-clause-exits : goal.leave_groups-returns-clause-exits
leave_groups-returns-clause-exits t c =
    (groups_done c.args.groups.now c.loop-group.group-index c.loop-group-test.false (groups_of (map group_of c.args.groups.now))
    (met_at c.args.exits.now) (met_at c.loop-group.exits) c.loop-group.last c.loop-group.invariant).1

pub leave_stmt-returns-in_err-jumps-in-Do-clause-exits : goal.leave_stmt-returns-in_err-jumps-in-Do-clause-exits
leave_stmt-returns-in_err-jumps-in-Do-clause-exits t c = grind (arith, common_steps)

pub leave_stmt-returns-in_err-jumps-in-Do-clause-through : goal.leave_stmt-returns-in_err-jumps-in-Do-clause-through
leave_stmt-returns-in_err-jumps-in-Do-clause-through t c = grind (arith, common_steps)

pub leave_stmt-returns-in_err-jumps-in-While-clause-exits : goal.leave_stmt-returns-in_err-jumps-in-While-clause-exits
leave_stmt-returns-in_err-jumps-in-While-clause-exits t c = grind (arith, common_steps)

pub leave_stmt-returns-in_err-jumps-in-While-clause-through : goal.leave_stmt-returns-in_err-jumps-in-While-clause-through
leave_stmt-returns-in_err-jumps-in-While-clause-through t c = grind (arith, common_steps)
