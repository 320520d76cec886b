use Rattle.gen_expressions.proofs.Seen.{seen}
use Rattle.gen_symbolic.proofs.Stating.{switches, written, written_more, groups_more, switch_is}
use Rattle.std.proofs.lemmas.Grind.{common_steps}
use Rattle.std.proofs.Common.{arith, ap, map, length, ◌∙◌}
use Rattle.std.proofs.lemmas.Result.{on_ok_weaker}
use Rattle.jv_core.specs.View.{expr_of, stmt_of, stmts_of}
use Rattle.gen_expressions.specs.Held.{draft_in, method_in}
use Rattle.gen_symbolic.specs.inner.Held.{around_of, with_slot}
use Rattle.gen_symbolic.proofs.statements.+statements.Goals as goal

pub groups-loop-group-preserved : goal.groups-loop-group-preserved
groups-loop-group-preserved t c =
    let s = c.args.coder.now in
    let h = c.loop-group.invariant in
    record {
      left =
          groups_more s.core.now (method_in s) (around_of c.args.around.now) c.args.list.now c.loop-group.group-index c.loop-group.label
          c.loop-group.locals (draft_in s c.loop-group.draft) _ h.left c.group-item.result c.as_slice.result.now c.statements.new.locals
          c.in_ok-label.label (draft_in s c.close.new.draft) (draft_in s c.statements.new.draft) (omega arith) c.group-item.is
          c.as_slice.ensures.items c.in_ok-close.ensures c.in_ok-statements.ensures.draft c.in_ok-statements.ensures.kept
          c.in_ok-label.ensures;
      locals = c.in_ok-statements.ensures.kept ∙ h.locals;
    }

pub statements-loop-stmt-preserved : goal.statements-loop-stmt-preserved
statements-loop-stmt-preserved t c =
    let s = c.args.coder.now in
    written_more s.core.now (method_in s) (around_of c.args.around.now) c.args.locals.now c.loop-stmt.locals
    (stmts_of (map stmt_of c.args.stmts.now)) (draft_in s c.args.draft.now) (draft_in s c.loop-stmt.draft) c.args.stmts.now
    c.loop-stmt.stmt-index
    c.loop-stmt.invariant c.stmt-item.result c.statement.new.locals c.declare.new.locals (draft_in s c.statement.new.draft)
    (omega arith)
    c.stmt-item.is c.in_ok-statement.ensures.draft c.in_ok-statement.ensures.kept
    (c.in_ok-declare.ensures ∙ ap (λ o. with_slot o c.statement.new.locals) c.declared.ensures)

pub switch-returns-clause-draft : goal.switch-returns-clause-draft
switch-returns-clause-draft t c =
    let s = c.args.coder.now in
    on_ok_weaker c.close.result (λ e.
    switch_is s.core.now (method_in s) c.args.locals.now (around_of c.args.around.now) (expr_of c.args.value.now) c.args.list.now
    c.in_ok-end.end c.in_ok-first.first c.constants.result (draft_in s c.args.draft.now) (draft_in s c.open.new.draft)
    (draft_in s c.value.new.draft)
    (draft_in s c.open_all.new.draft) (draft_in s c.put_table.new.draft) (draft_in s c.groups.new.draft) (draft_in s c.close.new.draft)
    c.in_ok-end.ensures.number c.in_ok-end.ensures.draft c.in_ok-value.ensures c.in_ok-first.ensures.number c.in_ok-first.ensures.draft
    c.constants.ensures c.in_ok-put_table.ensures c.in_ok-groups.ensures.draft e) c.close.ensures

pub do_while-returns-in_err-jump-clause-draft : goal.do_while-returns-in_err-jump-clause-draft
do_while-returns-in_err-jump-clause-draft t c = grind (arith, common_steps)

pub statement-returns-in-Assign-clause-draft : goal.statement-returns-in-Assign-clause-draft
statement-returns-in-Assign-clause-draft t c = grind (arith, seen)

pub statement-returns-in-Block-clause-draft : goal.statement-returns-in-Block-clause-draft
statement-returns-in-Block-clause-draft t c = grind (arith, seen)

pub statement-returns-in-Break-clause-draft : goal.statement-returns-in-Break-clause-draft
statement-returns-in-Break-clause-draft t c = grind (arith, seen)

pub statement-returns-in-Continue-clause-draft : goal.statement-returns-in-Continue-clause-draft
statement-returns-in-Continue-clause-draft t c = grind (arith, seen)

pub statement-returns-in-Do-clause-draft : goal.statement-returns-in-Do-clause-draft
statement-returns-in-Do-clause-draft t c = grind (arith, seen)

pub statement-returns-in-Empty-clause-draft : goal.statement-returns-in-Empty-clause-draft
statement-returns-in-Empty-clause-draft t c = grind (arith, seen)

pub statement-returns-in-Eval-clause-draft : goal.statement-returns-in-Eval-clause-draft
statement-returns-in-Eval-clause-draft t c = grind (arith, seen)

pub statement-returns-in-Local-clause-draft : goal.statement-returns-in-Local-clause-draft
statement-returns-in-Local-clause-draft t c = grind (arith, seen)

pub statement-returns-in-None-clause-draft : goal.statement-returns-in-None-clause-draft
statement-returns-in-None-clause-draft t c = grind (arith, seen)

pub statement-returns-in-None-value-clause-draft : goal.statement-returns-in-None-value-clause-draft
statement-returns-in-None-value-clause-draft t c = grind (arith, seen)

pub statement-returns-in-Print-clause-draft : goal.statement-returns-in-Print-clause-draft
statement-returns-in-Print-clause-draft t c = grind (arith, seen)

pub statement-returns-in-Some-clause-draft : goal.statement-returns-in-Some-clause-draft
statement-returns-in-Some-clause-draft t c = grind (arith, seen)

pub statement-returns-in-Some-value-clause-draft : goal.statement-returns-in-Some-value-clause-draft
statement-returns-in-Some-value-clause-draft t c = grind (arith, seen)

pub statement-returns-in-Switch-clause-draft : goal.statement-returns-in-Switch-clause-draft
statement-returns-in-Switch-clause-draft t c = grind (arith, seen)

pub statement-returns-in-While-clause-draft : goal.statement-returns-in-While-clause-draft
statement-returns-in-While-clause-draft t c = grind (arith, seen)

pub statements-returns-clause-draft : goal.statements-returns-clause-draft
statements-returns-clause-draft t c = grind (arith, written)

pub statements-returns-clause-kept : goal.statements-returns-clause-kept
statements-returns-clause-kept t c = grind (arith, written)

pub switch-returns-in_err-groups-clause-draft : goal.switch-returns-in_err-groups-clause-draft
switch-returns-in_err-groups-clause-draft t c = grind (arith, switches)
