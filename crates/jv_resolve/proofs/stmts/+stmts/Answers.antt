use Rattle.std.proofs.Common.{◌+◌, ◌-◌, ◌∷◌, drop, length, refl, sym, ap, ◌∙◌, Some}
use Rattle.std.specs.Prelude.{map, option_map}
use Rattle.std.proofs.lemmas.Result.{err_from_is_err_and}
use Rattle.std.proofs.lemmas.List.{map_push}
use Rattle.std.proofs.Math.ListN.{length-map}
use Rattle.jv_tree.specs.declared.tree.Group.{out-Group}
use Rattle.jv_tree.specs.View as source
use Rattle.jv_core.specs.Tree as Core
use Rattle.jv_core.specs.View.{expr_of, stmt_of, group_of, groups_of, loop_of}
use Rattle.jv_resolve_law.specs.Expressions.{resolved}
use Rattle.jv_resolve_law.specs.Statements.{InLoop, InSwitch, stmt, stmts, groups, local}
use Rattle.jv_resolve.specs.inner.Counted.{counted_seen, counting, itemed}
use Rattle.jv_resolve.specs.inner.Seen.{tables_seen, standing_seen, resolved_seen, operand_seen, around_seen}
use Rattle.jv_resolve.proofs.AtIndex.{drop_at, drop_end}
use Rattle.jv_resolve.proofs.Chains.{gives_as, fails_as, always_ok}
use Rattle.jv_resolve.specs.inner.Writing.{written_seen}
use Rattle.jv_resolve.specs.inner.Counted.{group_at}
use Rattle.jv_resolve_law.specs.Statements.{labels_at}
use Rattle.jv_resolve.proofs.OneGroup.{source_group-is, group_made, group_labels_fail, group_body_fails}
use Rattle.jv_resolve.proofs.Items.{item_local, item_other, in_same_scope}
use Rattle.jv_resolve.proofs.StmtShapes as shapes
use Rattle.jv_tree.specs.declared.tree.StmtKind.TheVariants as kinds
use Rattle.jv_core.proofs.ViewLaws as laws
use Rattle.jv_scope.specs.Named.{under}
use Rattle.jv_resolve.proofs.Composing as steps
use Rattle.jv_resolve.proofs.StmtLoops as loops
use Rattle.jv_resolve.proofs.stmts.+stmts.Goals as goal

pub resolve_stmt-returns-in_err-inner-in-Block-clause-it : goal.resolve_stmt-returns-in_err-inner-in-Block-clause-it
resolve_stmt-returns-in_err-inner-in-Block-clause-it t c =
    let p = err_from_is_err_and c.from_residual.result c.from_residual.ensures.1 in
    rw (p.1, p.2)
    (fails_as c.in_err-inner-in-Block.field-0.0 _ _
    (ap (λ x. stmt (tables_seen c.args.scope.now.table.now) (standing_seen c.args.scope.now) x (around_seen c.args.around.now)
    c.args.body.now.locals (counted_seen c.args.body.now)) (shapes.shape-Block c.args.stmt.now c.in-Block.inner c.in-Block.end
    c.in-Block.is))
    (steps.block_fails (tables_seen c.args.scope.now.table.now) (standing_seen c.args.scope.now) (around_seen c.args.around.now)
    c.args.body.now.locals (counted_seen c.args.body.now) c.args.stmt.now.place c.in_err-inner-in-Block.field-0.0
    (source.stmts_of (map source.stmt_of c.in-Block.inner.items)) c.in-Block.end
    (fails_as c.in_err-inner-in-Block.field-0.0 _ _
    (ap (λ ys. stmts (tables_seen c.args.scope.now.table.now) (standing_seen c.args.scope.now)
    (source.stmts_of (map source.stmt_of ys)) (around_seen c.args.around.now) c.args.body.now.locals (counted_seen c.args.body.now))
    (sym c.as_slice.ensures.items)) c.in_err-inner-in-Block.ensures.it)))

pub resolve_stmt-returns-in_ok-inner-in-Block-clause-it : goal.resolve_stmt-returns-in_ok-inner-in-Block-clause-it
resolve_stmt-returns-in_ok-inner-in-Block-clause-it t c =
    ap (λ x. stmt (tables_seen c.args.scope.now.table.now) (standing_seen c.args.scope.now) x (around_seen c.args.around.now)
    c.args.body.now.locals (counted_seen c.args.body.now)) (shapes.shape-Block c.args.stmt.now c.in-Block.inner c.in-Block.end
    c.in-Block.is)
    ∙ steps.block_made (tables_seen c.args.scope.now.table.now) (standing_seen c.args.scope.now) (around_seen c.args.around.now)
    c.args.body.now.locals (counted_seen c.args.body.now) c.args.stmt.now.place
    (source.stmts_of (map source.stmt_of c.in-Block.inner.items)) c.in-Block.end
    (counting (map stmt_of c.in_ok-inner-in-Block.inner.items) (counted_seen c.resolve_stmts.new.body)) (stmt_of c.stmt_at.result)
    (ap (λ ys. stmts (tables_seen c.args.scope.now.table.now) (standing_seen c.args.scope.now) (source.stmts_of (map source.stmt_of ys))
    (around_seen c.args.around.now) c.args.body.now.locals (counted_seen c.args.body.now)) (sym c.as_slice.ensures.items) ∙
    c.in_ok-inner-in-Block.ensures.it)
    (c.stmt_at.ensures ∙ laws.stmt-Block c.in_ok-inner-in-Block.inner c.in-Block.end c.args.stmt.now.place)

pub resolve_stmt-returns-in-Empty-clause-it : goal.resolve_stmt-returns-in-Empty-clause-it
resolve_stmt-returns-in-Empty-clause-it t c =
    ap (λ x. stmt (tables_seen c.args.scope.now.table.now) (standing_seen c.args.scope.now) x (around_seen c.args.around.now)
    c.args.body.now.locals (counted_seen c.args.body.now)) (shapes.shape-Empty c.args.stmt.now c.in-Empty.is) ∙
    ap (λ u. Some (counting u (counted_seen c.args.body.now)))
    (sym (c.stmt_at-in-Empty.ensures ∙ laws.stmt-Empty c.args.stmt.now.place))

pub resolve_stmt-returns-in_ok-declared-in-Local-clause-it : goal.resolve_stmt-returns-in_ok-declared-in-Local-clause-it
resolve_stmt-returns-in_ok-declared-in-Local-clause-it t c =
    let d = c.in_ok-declared-in-Local.declared in
    ap (λ x. stmt (tables_seen c.args.scope.now.table.now) (standing_seen c.args.scope.now) x (around_seen c.args.around.now)
    c.args.body.now.locals (counted_seen c.args.body.now)) (shapes.shape-Local c.args.stmt.now c.in-Local.ty c.in-Local.name
    c.in-Local.value c.in-Local.is)
    ∙ steps.local_made (tables_seen c.args.scope.now.table.now) (standing_seen c.args.scope.now) (around_seen c.args.around.now)
    c.args.body.now.locals (counted_seen c.args.body.now) c.args.stmt.now.place c.in-Local.ty c.in-Local.name
    (source.expr_of c.in-Local.value) (counting (under c.as_str.result.now d.local) (counted_seen c.resolve_declaration.new.body))
    (Core.Local d.place d.local.slot (expr_of d.value)) (stmt_of c.local_stmt.result)
    (ap (λ n. local (tables_seen c.args.scope.now.table.now) (standing_seen c.args.scope.now) c.args.stmt.now.place c.in-Local.ty n
    (source.expr_of c.in-Local.value) c.args.body.now.locals (counted_seen c.args.body.now)) (sym c.as_str.ensures) ∙
    c.in_ok-declared-in-Local.ensures.it)
    c.local_stmt.ensures

pub resolve_stmt-returns-in_err-declared-in-Local-clause-it : goal.resolve_stmt-returns-in_err-declared-in-Local-clause-it
resolve_stmt-returns-in_err-declared-in-Local-clause-it t c =
    let p = err_from_is_err_and c.from_residual-in_err-declared-in-Local.result c.from_residual-in_err-declared-in-Local.ensures.1 in
    rw (p.1, p.2)
    (fails_as c.in_err-declared-in-Local.field-0.0 _ _
    (ap (λ x. stmt (tables_seen c.args.scope.now.table.now) (standing_seen c.args.scope.now) x (around_seen c.args.around.now)
    c.args.body.now.locals (counted_seen c.args.body.now)) (shapes.shape-Local c.args.stmt.now c.in-Local.ty c.in-Local.name
    c.in-Local.value c.in-Local.is))
    (steps.local_fails (tables_seen c.args.scope.now.table.now) (standing_seen c.args.scope.now) (around_seen c.args.around.now)
    c.args.body.now.locals (counted_seen c.args.body.now) c.args.stmt.now.place c.in-Local.ty c.in-Local.name
    (source.expr_of c.in-Local.value) c.in_err-declared-in-Local.field-0.0
    (fails_as c.in_err-declared-in-Local.field-0.0 _ _
    (ap (λ n. local (tables_seen c.args.scope.now.table.now) (standing_seen c.args.scope.now) c.args.stmt.now.place c.in-Local.ty n
    (source.expr_of c.in-Local.value) c.args.body.now.locals (counted_seen c.args.body.now)) (sym c.as_str.ensures))
    c.in_err-declared-in-Local.ensures.it)))

pub resolve_stmt-returns-in-Assign-clause-it : goal.resolve_stmt-returns-in-Assign-clause-it
resolve_stmt-returns-in-Assign-clause-it t c =
    gives_as (λ s. counting (stmt_of s) (counted_seen c.args.body.now)) c.assigned.result _ _
    (ap (λ x. stmt (tables_seen c.args.scope.now.table.now) (standing_seen c.args.scope.now) x (around_seen c.args.around.now)
    c.args.body.now.locals (counted_seen c.args.body.now)) (shapes.shape-Assign c.args.stmt.now c.in-Assign.target c.in-Assign.value
    c.in-Assign.is)) c.assigned.ensures

pub resolve_stmt-returns-in-Return-clause-it : goal.resolve_stmt-returns-in-Return-clause-it
resolve_stmt-returns-in-Return-clause-it t c =
    gives_as (λ s. counting (stmt_of s) (counted_seen c.args.body.now)) c.returned.result _ _
    (ap (λ x. stmt (tables_seen c.args.scope.now.table.now) (standing_seen c.args.scope.now) x (around_seen c.args.around.now)
    c.args.body.now.locals (counted_seen c.args.body.now)) (shapes.shape-Return c.args.stmt.now c.in-Return.value c.in-Return.is))
    c.returned.ensures

pub resolve_stmt-returns-in-Print-clause-it : goal.resolve_stmt-returns-in-Print-clause-it
resolve_stmt-returns-in-Print-clause-it t c =
    gives_as (λ s. counting (stmt_of s) (counted_seen c.args.body.now)) c.printed.result _ _
    (ap (λ x. stmt (tables_seen c.args.scope.now.table.now) (standing_seen c.args.scope.now) x (around_seen c.args.around.now)
    c.args.body.now.locals (counted_seen c.args.body.now)) (shapes.shape-Print c.args.stmt.now c.in-Print.value c.in-Print.is))
    c.printed.ensures

pub resolve_stmt-returns-in-Eval-clause-it : goal.resolve_stmt-returns-in-Eval-clause-it
resolve_stmt-returns-in-Eval-clause-it t c =
    gives_as (λ s. counting (stmt_of s) (counted_seen c.args.body.now)) c.evaluated.result _ _
    (ap (λ x. stmt (tables_seen c.args.scope.now.table.now) (standing_seen c.args.scope.now) x (around_seen c.args.around.now)
    c.args.body.now.locals (counted_seen c.args.body.now)) (shapes.shape-Eval c.args.stmt.now c.in-Eval.value c.in-Eval.is))
    c.evaluated.ensures

pub resolve_stmt-returns-in-Break-clause-it : goal.resolve_stmt-returns-in-Break-clause-it
resolve_stmt-returns-in-Break-clause-it t c =
    gives_as (λ s. counting (stmt_of s) (counted_seen c.args.body.now)) c.broken.result _ _
    (ap (λ x. stmt (tables_seen c.args.scope.now.table.now) (standing_seen c.args.scope.now) x (around_seen c.args.around.now)
    c.args.body.now.locals (counted_seen c.args.body.now)) (shapes.shape-Break c.args.stmt.now c.in-Break.label c.in-Break.is))
    c.broken.ensures

pub resolve_stmt-returns-in-Continue-clause-it : goal.resolve_stmt-returns-in-Continue-clause-it
resolve_stmt-returns-in-Continue-clause-it t c =
    gives_as (λ s. counting (stmt_of s) (counted_seen c.args.body.now)) c.continued.result _ _
    (ap (λ x. stmt (tables_seen c.args.scope.now.table.now) (standing_seen c.args.scope.now) x (around_seen c.args.around.now)
    c.args.body.now.locals (counted_seen c.args.body.now)) (shapes.shape-Continue c.args.stmt.now c.in-Continue.label c.in-Continue.is))
    c.continued.ensures

pub resolve_stmt-returns-in_err-test-in-While-clause-it : goal.resolve_stmt-returns-in_err-test-in-While-clause-it
resolve_stmt-returns-in_err-test-in-While-clause-it t c =
    let p = err_from_is_err_and c.from_residual-in_err-test-in-While.result c.from_residual-in_err-test-in-While.ensures.1 in
    rw (p.1, p.2)
    (fails_as c.in_err-test-in-While.field-0.0 _ _
    (ap (λ x. stmt (tables_seen c.args.scope.now.table.now) (standing_seen c.args.scope.now) x (around_seen c.args.around.now)
    c.args.body.now.locals (counted_seen c.args.body.now)) (shapes.shape-While c.args.stmt.now c.in-While.label c.in-While.test
    c.in-While.inner c.in-While.is))
    (steps.while_test_fails (tables_seen c.args.scope.now.table.now) (standing_seen c.args.scope.now) (around_seen c.args.around.now)
    c.args.body.now.locals (counted_seen c.args.body.now) c.args.stmt.now.place c.in-While.label (source.expr_of c.in-While.test)
    (source.stmt_of c.in-While.inner.value) c.in_err-test-in-While.field-0.0
    (fails_as c.in_err-test-in-While.field-0.0 _ _
    (ap (λ ls. resolved (tables_seen c.args.scope.now.table.now) (standing_seen c.args.scope.now) ls (source.expr_of c.in-While.test))
    (sym (c.in_ok-inner-in-While.ensures.locals ∙ c.in_ok-number-in-While.ensures.locals))) c.in_err-test-in-While.ensures)))

pub resolve_stmt-returns-in_err-inner-in-While-clause-it : goal.resolve_stmt-returns-in_err-inner-in-While-clause-it
resolve_stmt-returns-in_err-inner-in-While-clause-it t c =
    let p = err_from_is_err_and c.from_residual-in_err-inner-in-While.result c.from_residual-in_err-inner-in-While.ensures.1 in
    rw (p.1, p.2)
    (fails_as c.in_err-inner-in-While.field-0.0 _ _
    (ap (λ x. stmt (tables_seen c.args.scope.now.table.now) (standing_seen c.args.scope.now) x (around_seen c.args.around.now)
    c.args.body.now.locals (counted_seen c.args.body.now)) (shapes.shape-While c.args.stmt.now c.in-While.label c.in-While.test
    c.in-While.inner c.in-While.is))
    (steps.while_fails (tables_seen c.args.scope.now.table.now) (standing_seen c.args.scope.now) (around_seen c.args.around.now)
    c.args.body.now.locals (counted_seen c.args.body.now) c.args.stmt.now.place c.in-While.label (source.expr_of c.in-While.test)
    (source.stmt_of c.in-While.inner.value) c.in_err-inner-in-While.field-0.0
    (fails_as c.in_err-inner-in-While.field-0.0 _ _ (steps.within_as (tables_seen c.args.scope.now.table.now)
    (standing_seen c.args.scope.now) (around_seen c.args.around.now) c.args.body.now.locals (counted_seen c.args.body.now)
    c.args.stmt.now.place c.in-While.label (source.expr_of c.in-While.test) (source.stmt_of c.in-While.inner.value)
    (option_map (λ l. l.now) c.label_of.result) c.in_ok-number-in-While.number c.add_loop.new.self.locals
    (counted_seen c.add_loop.new.self) c.label_of.ensures (c.in_ok-number-in-While.ensures.number ∙
    sym (length-map c.args.body.now.loops.items loop_of)) c.in_ok-number-in-While.ensures.locals c.in_ok-number-in-While.ensures.added
    ∙ ap (λ y. stmt (tables_seen c.args.scope.now.table.now) (standing_seen c.args.scope.now) (source.stmt_of y)
    (InLoop (option_map (λ l. l.now) c.label_of.result) c.in_ok-number-in-While.number ∷ (around_seen c.args.around.now))
    c.add_loop.new.self.locals (counted_seen c.add_loop.new.self)) (sym c.deref-in-While.ensures)) c.in_err-inner-in-While.ensures.it)))

pub resolve_stmt-returns-in_ok-test-in-While-clause-it : goal.resolve_stmt-returns-in_ok-test-in-While-clause-it
resolve_stmt-returns-in_ok-test-in-While-clause-it t c =
    ap (λ x. stmt (tables_seen c.args.scope.now.table.now) (standing_seen c.args.scope.now) x (around_seen c.args.around.now)
    c.args.body.now.locals (counted_seen c.args.body.now)) (shapes.shape-While c.args.stmt.now c.in-While.label c.in-While.test
    c.in-While.inner c.in-While.is)
    ∙ steps.while_made (tables_seen c.args.scope.now.table.now) (standing_seen c.args.scope.now) (around_seen c.args.around.now)
    c.args.body.now.locals (counted_seen c.args.body.now) c.args.stmt.now.place c.in-While.label (source.expr_of c.in-While.test)
    (source.stmt_of c.in-While.inner.value) (resolved_seen c.in_ok-test-in-While.test)
    (counting (stmt_of c.in_ok-inner-in-While.inner.value) (counted_seen c.resolve_inner-in-While.new.body))
    c.in_ok-number-in-While.number (stmt_of c.stmt_at-in-While.result)
    (ap (λ ls. resolved (tables_seen c.args.scope.now.table.now) (standing_seen c.args.scope.now) ls (source.expr_of c.in-While.test))
    (sym (c.in_ok-inner-in-While.ensures.locals ∙ c.in_ok-number-in-While.ensures.locals)) ∙ c.in_ok-test-in-While.ensures)
    (steps.within_as (tables_seen c.args.scope.now.table.now) (standing_seen c.args.scope.now) (around_seen c.args.around.now)
    c.args.body.now.locals (counted_seen c.args.body.now) c.args.stmt.now.place c.in-While.label (source.expr_of c.in-While.test)
    (source.stmt_of c.in-While.inner.value) (option_map (λ l. l.now) c.label_of.result) c.in_ok-number-in-While.number
    c.add_loop.new.self.locals (counted_seen c.add_loop.new.self) c.label_of.ensures (c.in_ok-number-in-While.ensures.number ∙
    sym (length-map c.args.body.now.loops.items loop_of)) c.in_ok-number-in-While.ensures.locals c.in_ok-number-in-While.ensures.added
    ∙ ap (λ y. stmt (tables_seen c.args.scope.now.table.now) (standing_seen c.args.scope.now) (source.stmt_of y)
    (InLoop (option_map (λ l. l.now) c.label_of.result) c.in_ok-number-in-While.number ∷ (around_seen c.args.around.now))
    c.add_loop.new.self.locals (counted_seen c.add_loop.new.self)) (sym c.deref-in-While.ensures) ∙ c.in_ok-inner-in-While.ensures.it)
    (c.in_ok-number-in-While.ensures.number ∙ sym (length-map c.args.body.now.loops.items loop_of))
    (c.stmt_at-in-While.ensures ∙ laws.stmt-While c.in_ok-number-in-While.number c.in_ok-test-in-While.test.expr
    c.in_ok-inner-in-While.inner c.args.stmt.now.place)

pub resolve_stmt-returns-in_err-inner-in-Do-clause-it : goal.resolve_stmt-returns-in_err-inner-in-Do-clause-it
resolve_stmt-returns-in_err-inner-in-Do-clause-it t c =
    let p = err_from_is_err_and c.from_residual-in_err-inner-in-Do.result c.from_residual-in_err-inner-in-Do.ensures.1 in
    rw (p.1, p.2)
    (fails_as c.in_err-inner-in-Do.field-0.0 _ _
    (ap (λ x. stmt (tables_seen c.args.scope.now.table.now) (standing_seen c.args.scope.now) x (around_seen c.args.around.now)
    c.args.body.now.locals (counted_seen c.args.body.now)) (shapes.shape-Do c.args.stmt.now c.in-Do.label c.in-Do.inner c.in-Do.test
    c.in-Do.is))
    (steps.do_fails (tables_seen c.args.scope.now.table.now) (standing_seen c.args.scope.now) (around_seen c.args.around.now)
    c.args.body.now.locals (counted_seen c.args.body.now) c.args.stmt.now.place c.in-Do.label (source.expr_of c.in-Do.test)
    (source.stmt_of c.in-Do.inner.value) c.in_err-inner-in-Do.field-0.0
    (fails_as c.in_err-inner-in-Do.field-0.0 _ _ (steps.within_as (tables_seen c.args.scope.now.table.now) (standing_seen c.args.scope.now)
    (around_seen c.args.around.now) c.args.body.now.locals (counted_seen c.args.body.now) c.args.stmt.now.place c.in-Do.label
    (source.expr_of c.in-Do.test) (source.stmt_of c.in-Do.inner.value) (option_map (λ l. l.now) c.label_of-in-Do.result)
    c.in_ok-number-in-Do.number c.add_loop-in-Do.new.self.locals (counted_seen c.add_loop-in-Do.new.self) c.label_of-in-Do.ensures
    (c.in_ok-number-in-Do.ensures.number ∙ sym (length-map c.args.body.now.loops.items loop_of)) c.in_ok-number-in-Do.ensures.locals
    c.in_ok-number-in-Do.ensures.added
    ∙ ap (λ y. stmt (tables_seen c.args.scope.now.table.now) (standing_seen c.args.scope.now) (source.stmt_of y)
    (InLoop (option_map (λ l. l.now) c.label_of-in-Do.result) c.in_ok-number-in-Do.number ∷ (around_seen c.args.around.now))
    c.add_loop-in-Do.new.self.locals (counted_seen c.add_loop-in-Do.new.self)) (sym c.deref-in-Do.ensures))
    c.in_err-inner-in-Do.ensures.it)))

pub resolve_stmt-returns-in_err-test-in-Do-clause-it : goal.resolve_stmt-returns-in_err-test-in-Do-clause-it
resolve_stmt-returns-in_err-test-in-Do-clause-it t c =
    let p = err_from_is_err_and c.from_residual-in_err-test-in-Do.result c.from_residual-in_err-test-in-Do.ensures.1 in
    rw (p.1, p.2)
    (fails_as c.in_err-test-in-Do.field-0.0 _ _
    (ap (λ x. stmt (tables_seen c.args.scope.now.table.now) (standing_seen c.args.scope.now) x (around_seen c.args.around.now)
    c.args.body.now.locals (counted_seen c.args.body.now)) (shapes.shape-Do c.args.stmt.now c.in-Do.label c.in-Do.inner c.in-Do.test
    c.in-Do.is))
    (steps.do_test_fails (tables_seen c.args.scope.now.table.now) (standing_seen c.args.scope.now) (around_seen c.args.around.now)
    c.args.body.now.locals (counted_seen c.args.body.now) c.args.stmt.now.place c.in-Do.label (source.expr_of c.in-Do.test)
    (source.stmt_of c.in-Do.inner.value) c.in_err-test-in-Do.field-0.0 (counting (stmt_of c.in_ok-inner-in-Do.inner.value)
    (counted_seen c.resolve_inner-in-Do.new.body))
    (steps.within_as (tables_seen c.args.scope.now.table.now) (standing_seen c.args.scope.now) (around_seen c.args.around.now)
    c.args.body.now.locals (counted_seen c.args.body.now) c.args.stmt.now.place c.in-Do.label (source.expr_of c.in-Do.test)
    (source.stmt_of c.in-Do.inner.value) (option_map (λ l. l.now) c.label_of-in-Do.result) c.in_ok-number-in-Do.number
    c.add_loop-in-Do.new.self.locals (counted_seen c.add_loop-in-Do.new.self) c.label_of-in-Do.ensures
    (c.in_ok-number-in-Do.ensures.number ∙ sym (length-map c.args.body.now.loops.items loop_of)) c.in_ok-number-in-Do.ensures.locals
    c.in_ok-number-in-Do.ensures.added
    ∙ ap (λ y. stmt (tables_seen c.args.scope.now.table.now) (standing_seen c.args.scope.now) (source.stmt_of y)
    (InLoop (option_map (λ l. l.now) c.label_of-in-Do.result) c.in_ok-number-in-Do.number ∷ (around_seen c.args.around.now))
    c.add_loop-in-Do.new.self.locals (counted_seen c.add_loop-in-Do.new.self)) (sym c.deref-in-Do.ensures) ∙
    c.in_ok-inner-in-Do.ensures.it)
    (fails_as c.in_err-test-in-Do.field-0.0 _ _
    (ap (λ ls. resolved (tables_seen c.args.scope.now.table.now) (standing_seen c.args.scope.now) ls (source.expr_of c.in-Do.test))
    (sym (c.in_ok-inner-in-Do.ensures.locals ∙ c.in_ok-number-in-Do.ensures.locals))) c.in_err-test-in-Do.ensures)))

pub resolve_stmt-returns-in_ok-test-in-Do-clause-it : goal.resolve_stmt-returns-in_ok-test-in-Do-clause-it
resolve_stmt-returns-in_ok-test-in-Do-clause-it t c =
    ap (λ x. stmt (tables_seen c.args.scope.now.table.now) (standing_seen c.args.scope.now) x (around_seen c.args.around.now)
    c.args.body.now.locals (counted_seen c.args.body.now)) (shapes.shape-Do c.args.stmt.now c.in-Do.label c.in-Do.inner c.in-Do.test
    c.in-Do.is)
    ∙ steps.do_made (tables_seen c.args.scope.now.table.now) (standing_seen c.args.scope.now) (around_seen c.args.around.now)
    c.args.body.now.locals (counted_seen c.args.body.now) c.args.stmt.now.place c.in-Do.label (source.expr_of c.in-Do.test)
    (source.stmt_of c.in-Do.inner.value) (resolved_seen c.in_ok-test-in-Do.test) (counting (stmt_of c.in_ok-inner-in-Do.inner.value)
    (counted_seen c.resolve_inner-in-Do.new.body)) c.in_ok-number-in-Do.number (stmt_of c.stmt_at-in-Do.result)
    (steps.within_as (tables_seen c.args.scope.now.table.now) (standing_seen c.args.scope.now) (around_seen c.args.around.now)
    c.args.body.now.locals (counted_seen c.args.body.now) c.args.stmt.now.place c.in-Do.label (source.expr_of c.in-Do.test)
    (source.stmt_of c.in-Do.inner.value) (option_map (λ l. l.now) c.label_of-in-Do.result) c.in_ok-number-in-Do.number
    c.add_loop-in-Do.new.self.locals (counted_seen c.add_loop-in-Do.new.self) c.label_of-in-Do.ensures
    (c.in_ok-number-in-Do.ensures.number ∙ sym (length-map c.args.body.now.loops.items loop_of)) c.in_ok-number-in-Do.ensures.locals
    c.in_ok-number-in-Do.ensures.added
    ∙ ap (λ y. stmt (tables_seen c.args.scope.now.table.now) (standing_seen c.args.scope.now) (source.stmt_of y)
    (InLoop (option_map (λ l. l.now) c.label_of-in-Do.result) c.in_ok-number-in-Do.number ∷ (around_seen c.args.around.now))
    c.add_loop-in-Do.new.self.locals (counted_seen c.add_loop-in-Do.new.self)) (sym c.deref-in-Do.ensures) ∙
    c.in_ok-inner-in-Do.ensures.it)
    (ap (λ ls. resolved (tables_seen c.args.scope.now.table.now) (standing_seen c.args.scope.now) ls (source.expr_of c.in-Do.test))
    (sym (c.in_ok-inner-in-Do.ensures.locals ∙ c.in_ok-number-in-Do.ensures.locals)) ∙ c.in_ok-test-in-Do.ensures)
    (c.in_ok-number-in-Do.ensures.number ∙ sym (length-map c.args.body.now.loops.items loop_of))
    (c.stmt_at-in-Do.ensures ∙ laws.stmt-Do c.in_ok-number-in-Do.number c.in_ok-inner-in-Do.inner c.in_ok-test-in-Do.test.expr
    c.args.stmt.now.place)

pub resolve_stmt-returns-in_err-value-in-Switch-clause-it : goal.resolve_stmt-returns-in_err-value-in-Switch-clause-it
resolve_stmt-returns-in_err-value-in-Switch-clause-it t c =
    let p = err_from_is_err_and c.from_residual-in_err-value-in-Switch.result c.from_residual-in_err-value-in-Switch.ensures.1 in
    rw (p.1, p.2)
    (fails_as c.in_err-value-in-Switch.field-0.0 _ _
    (ap (λ x. stmt (tables_seen c.args.scope.now.table.now) (standing_seen c.args.scope.now) x (around_seen c.args.around.now)
    c.args.body.now.locals (counted_seen c.args.body.now)) (shapes.shape-Switch c.args.stmt.now c.in-Switch.value c.in-Switch.groups
    c.in-Switch.end c.in-Switch.is))
    (steps.switch_value_fails (tables_seen c.args.scope.now.table.now) (standing_seen c.args.scope.now) (around_seen c.args.around.now)
    c.args.body.now.locals (counted_seen c.args.body.now) c.args.stmt.now.place (source.expr_of c.in-Switch.value)
    (source.groups_of (map source.group_of c.in-Switch.groups.items)) c.in-Switch.end c.in_err-value-in-Switch.field-0.0
    c.in_err-value-in-Switch.ensures))

pub resolve_stmt-returns-in_err-of-in-Switch-clause-it : goal.resolve_stmt-returns-in_err-of-in-Switch-clause-it
resolve_stmt-returns-in_err-of-in-Switch-clause-it t c =
    let p = err_from_is_err_and c.from_residual-in_err-of-in-Switch.result c.from_residual-in_err-of-in-Switch.ensures.1 in
    rw (p.1, p.2)
    (fails_as c.in_err-of-in-Switch.field-0.0 _ _
    (ap (λ x. stmt (tables_seen c.args.scope.now.table.now) (standing_seen c.args.scope.now) x (around_seen c.args.around.now)
    c.args.body.now.locals (counted_seen c.args.body.now)) (shapes.shape-Switch c.args.stmt.now c.in-Switch.value c.in-Switch.groups
    c.in-Switch.end c.in-Switch.is))
    (steps.switch_enum_fails (tables_seen c.args.scope.now.table.now) (standing_seen c.args.scope.now) (around_seen c.args.around.now)
    c.args.body.now.locals (counted_seen c.args.body.now) c.args.stmt.now.place (source.expr_of c.in-Switch.value)
    (source.groups_of (map source.group_of c.in-Switch.groups.items)) c.in-Switch.end c.in_err-of-in-Switch.field-0.0
    (operand_seen c.in_ok-value-in-Switch.value) c.in_ok-value-in-Switch.ensures c.in_err-of-in-Switch.ensures))

pub resolve_stmt-returns-in_err-groups-in-Switch-clause-it : goal.resolve_stmt-returns-in_err-groups-in-Switch-clause-it
resolve_stmt-returns-in_err-groups-in-Switch-clause-it t c =
    let p = err_from_is_err_and c.from_residual-in_err-groups-in-Switch.result c.from_residual-in_err-groups-in-Switch.ensures.1 in
    rw (p.1, p.2)
    (fails_as c.in_err-groups-in-Switch.field-0.0 _ _
    (ap (λ x. stmt (tables_seen c.args.scope.now.table.now) (standing_seen c.args.scope.now) x (around_seen c.args.around.now)
    c.args.body.now.locals (counted_seen c.args.body.now)) (shapes.shape-Switch c.args.stmt.now c.in-Switch.value c.in-Switch.groups
    c.in-Switch.end c.in-Switch.is))
    (steps.switch_fails (tables_seen c.args.scope.now.table.now) (standing_seen c.args.scope.now) (around_seen c.args.around.now)
    c.args.body.now.locals (counted_seen c.args.body.now) c.args.stmt.now.place (source.expr_of c.in-Switch.value)
    (source.groups_of (map source.group_of c.in-Switch.groups.items)) c.in-Switch.end c.in_err-groups-in-Switch.field-0.0
    (operand_seen c.in_ok-value-in-Switch.value) (source.enum_of c.in_ok-of-in-Switch.of.now.of.now) c.in_ok-value-in-Switch.ensures
    c.in_ok-of-in-Switch.ensures
    (fails_as c.in_err-groups-in-Switch.field-0.0 _ _
    (ap (λ ys. groups (tables_seen c.args.scope.now.table.now) (standing_seen c.args.scope.now)
    (source.groups_of (map source.group_of ys)) (source.enum_of c.in_ok-of-in-Switch.of.now.of.now)
    (InSwitch ∷ (around_seen c.args.around.now)) c.args.body.now.locals (counted_seen c.args.body.now))
    (sym c.as_slice-in-Switch.ensures.items)) c.in_err-groups-in-Switch.ensures.it)))

pub resolve_stmt-returns-in_ok-groups-in-Switch-clause-it : goal.resolve_stmt-returns-in_ok-groups-in-Switch-clause-it
resolve_stmt-returns-in_ok-groups-in-Switch-clause-it t c =
    ap (λ x. stmt (tables_seen c.args.scope.now.table.now) (standing_seen c.args.scope.now) x (around_seen c.args.around.now)
    c.args.body.now.locals (counted_seen c.args.body.now)) (shapes.shape-Switch c.args.stmt.now c.in-Switch.value c.in-Switch.groups
    c.in-Switch.end c.in-Switch.is)
    ∙ steps.switch_made (tables_seen c.args.scope.now.table.now) (standing_seen c.args.scope.now) (around_seen c.args.around.now)
    c.args.body.now.locals (counted_seen c.args.body.now) c.args.stmt.now.place (source.expr_of c.in-Switch.value)
    (source.groups_of (map source.group_of c.in-Switch.groups.items)) c.in-Switch.end (operand_seen c.in_ok-value-in-Switch.value)
    (source.enum_of c.in_ok-of-in-Switch.of.now.of.now) (counting (map group_of c.in_ok-groups-in-Switch.groups.items)
    (counted_seen c.resolve_groups.new.body)) (stmt_of c.stmt_at-in-Switch.result)
    c.in_ok-value-in-Switch.ensures c.in_ok-of-in-Switch.ensures
    (ap (λ ys. groups (tables_seen c.args.scope.now.table.now) (standing_seen c.args.scope.now) (source.groups_of (map source.group_of ys))
    (source.enum_of c.in_ok-of-in-Switch.of.now.of.now) (InSwitch ∷ (around_seen c.args.around.now)) c.args.body.now.locals
    (counted_seen c.args.body.now)) (sym c.as_slice-in-Switch.ensures.items) ∙ c.in_ok-groups-in-Switch.ensures.it)
    (c.stmt_at-in-Switch.ensures ∙ laws.stmt-Switch c.into_inner.result c.in_ok-groups-in-Switch.groups c.in-Switch.end
    c.args.stmt.now.place
    ∙ ap (λ e. Core.Switch c.args.stmt.now.place (expr_of e) (groups_of (map group_of c.in_ok-groups-in-Switch.groups.items))
    c.in-Switch.end) c.into_inner.ensures)

pub resolve_stmts-loop-stmt-init : goal.resolve_stmts-loop-stmt-init
resolve_stmts-loop-stmt-init t c =
    record {
      so_far = loops.stmts_start (stmts (tables_seen c.args.scope.now.table.now) (standing_seen c.args.scope.now)
          (source.stmts_of (map source.stmt_of c.args.stmts.now)) (around_seen c.args.around.now) c.args.body.now.locals
          (counted_seen c.args.body.now)) ∙
          ap (λ d. loops.with_stmts (map stmt_of d) (stmts (tables_seen c.args.scope.now.table.now) (standing_seen c.args.scope.now)
          (source.stmts_of (map source.stmt_of c.args.stmts.now)) (around_seen c.args.around.now) c.args.body.now.locals
          (counted_seen c.args.body.now))) (sym c.new-resolved.ensures);
      scope = loops.extends_start c.args.body.now.locals;
    }

pub resolve_stmts-loop-stmt-preserved : goal.resolve_stmts-loop-stmt-preserved
resolve_stmts-loop-stmt-preserved t c =
    record {
      so_far =
          loops.stmts_more (tables_seen c.args.scope.now.table.now) (standing_seen c.args.scope.now) (around_seen c.args.around.now)
          (stmts (tables_seen c.args.scope.now.table.now) (standing_seen c.args.scope.now)
          (source.stmts_of (map source.stmt_of c.args.stmts.now)) (around_seen c.args.around.now) c.args.body.now.locals
          (counted_seen c.args.body.now)) (map stmt_of c.loop-stmt.resolved.items) (drop c.loop-stmt.stmt-index c.args.stmts.now)
          c.loop-stmt.body.locals (counted_seen c.loop-stmt.body) c.loop-stmt.invariant.so_far c.stmt-item.result
          (drop (c.loop-stmt.stmt-index + 1) c.args.stmts.now) (drop_at c.args.stmts.now c.loop-stmt.stmt-index c.stmt-item.result
          c.loop-stmt-test.true c.stmt-item.is) (itemed (stmt_of c.in_ok-stmt.stmt) c.resolve_item.new.body.locals
          (counted_seen c.resolve_item.new.body)) c.in_ok-stmt.ensures
          ∙ ap (λ d. loops.with_stmts d (loops.left_stmts (tables_seen c.args.scope.now.table.now) (standing_seen c.args.scope.now)
          (around_seen c.args.around.now) (drop (c.loop-stmt.stmt-index + 1) c.args.stmts.now) c.resolve_item.new.body.locals
          (counted_seen c.resolve_item.new.body)))
          (sym (ap (map stmt_of) c.in_ok-push.ensures.ok ∙ map_push stmt_of c.loop-stmt.resolved.items c.in_ok-stmt.stmt));
      scope = loops.extends_more c.args.body.now.locals c.loop-stmt.body.locals c.resolve_item.new.body.locals c.loop-stmt.invariant.scope
          (loops.item_keeps (tables_seen c.args.scope.now.table.now) (standing_seen c.args.scope.now) (around_seen c.args.around.now)
          c.loop-stmt.body.locals (counted_seen c.loop-stmt.body) (itemed (stmt_of c.in_ok-stmt.stmt) c.resolve_item.new.body.locals
          (counted_seen c.resolve_item.new.body)) (source.stmt_of c.stmt-item.result) c.in_ok-stmt.ensures);
    }

pub resolve_stmts-returns-in_err-stmt-clause-it : goal.resolve_stmts-returns-in_err-stmt-clause-it
resolve_stmts-returns-in_err-stmt-clause-it t c =
    let p = err_from_is_err_and c.from_residual.result c.from_residual.ensures.1 in
    rw (p.1, p.2)
    (loops.stmts_fail (tables_seen c.args.scope.now.table.now) (standing_seen c.args.scope.now) (around_seen c.args.around.now)
    (stmts (tables_seen c.args.scope.now.table.now) (standing_seen c.args.scope.now)
    (source.stmts_of (map source.stmt_of c.args.stmts.now)) (around_seen c.args.around.now) c.args.body.now.locals
    (counted_seen c.args.body.now)) (map stmt_of c.loop-stmt.resolved.items) (drop c.loop-stmt.stmt-index c.args.stmts.now)
    c.loop-stmt.body.locals (counted_seen c.loop-stmt.body) c.loop-stmt.invariant.so_far c.stmt-item.result
    (drop (c.loop-stmt.stmt-index + 1) c.args.stmts.now) (drop_at c.args.stmts.now c.loop-stmt.stmt-index c.stmt-item.result
    c.loop-stmt-test.true c.stmt-item.is) c.in_err-stmt.field-0.0 c.in_err-stmt.ensures)

pub resolve_stmts-returns-clause-it : goal.resolve_stmts-returns-clause-it
resolve_stmts-returns-clause-it t c =
    loops.stmts_done (tables_seen c.args.scope.now.table.now) (standing_seen c.args.scope.now) (around_seen c.args.around.now)
    (stmts (tables_seen c.args.scope.now.table.now) (standing_seen c.args.scope.now)
    (source.stmts_of (map source.stmt_of c.args.stmts.now)) (around_seen c.args.around.now) c.args.body.now.locals
    (counted_seen c.args.body.now)) (map stmt_of c.loop-stmt.resolved.items) (drop c.loop-stmt.stmt-index c.args.stmts.now)
    c.loop-stmt.body.locals (counted_seen c.loop-stmt.body) c.loop-stmt.invariant.so_far
    (drop_end c.args.stmts.now c.loop-stmt.stmt-index c.loop-stmt-test.false)

pub resolve_stmts-returns-clause-locals : goal.resolve_stmts-returns-clause-locals
resolve_stmts-returns-clause-locals t c =
    c.truncate.ensures ∙ ap (λ n. drop (length c.loop-stmt.body.locals - n) c.loop-stmt.body.locals) c.len-outer.ensures ∙
    c.loop-stmt.invariant.scope.kept

pub resolve_groups-loop-group-init : goal.resolve_groups-loop-group-init
resolve_groups-loop-group-init t c =
    record {
      so_far = loops.groups_start (tables_seen c.args.scope.now.table.now) (standing_seen c.args.scope.now) (around_seen c.args.around.now)
          (groups (tables_seen c.args.scope.now.table.now) (standing_seen c.args.scope.now)
          (source.groups_of (map source.group_of c.args.groups.now)) (source.enum_of c.args.of.now.of.now) (around_seen c.args.around.now)
          c.args.body.now.locals (counted_seen c.args.body.now)) ∙ ap (λ d. loops.with_groups (tables_seen c.args.scope.now.table.now)
          (standing_seen c.args.scope.now) (around_seen c.args.around.now) (map group_of d)
          (groups (tables_seen c.args.scope.now.table.now) (standing_seen c.args.scope.now)
          (source.groups_of (map source.group_of c.args.groups.now)) (source.enum_of c.args.of.now.of.now) (around_seen c.args.around.now)
          c.args.body.now.locals (counted_seen c.args.body.now))) (sym c.new-resolved.ensures);
      locals = refl;
    }

pub resolve_groups-loop-group-preserved : goal.resolve_groups-loop-group-preserved
resolve_groups-loop-group-preserved t c =
    record {
      so_far =
          loops.groups_more (tables_seen c.args.scope.now.table.now) (standing_seen c.args.scope.now) (around_seen c.args.around.now)
          (source.enum_of c.args.of.now.of.now) (groups (tables_seen c.args.scope.now.table.now) (standing_seen c.args.scope.now)
          (source.groups_of (map source.group_of c.args.groups.now)) (source.enum_of c.args.of.now.of.now)
          (around_seen c.args.around.now) c.args.body.now.locals (counted_seen c.args.body.now))
          (map group_of c.loop-group.resolved.items) (drop c.loop-group.group-index c.args.groups.now) c.loop-group.body.locals
          (counted_seen c.loop-group.body) c.loop-group.invariant.so_far c.group-item.result
          (drop (c.loop-group.group-index + 1) c.args.groups.now) (drop_at c.args.groups.now c.loop-group.group-index
          c.group-item.result c.loop-group-test.true c.group-item.is)
          (counting (group_of c.in_ok-group.group) (counted_seen c.resolve_group.new.body)) c.in_ok-group.ensures.it
          ∙ ap (λ d. loops.with_groups (tables_seen c.args.scope.now.table.now) (standing_seen c.args.scope.now)
          (around_seen c.args.around.now) d (loops.left_groups (tables_seen c.args.scope.now.table.now)
          (standing_seen c.args.scope.now) (around_seen c.args.around.now) (source.enum_of c.args.of.now.of.now)
          (drop (c.loop-group.group-index + 1) c.args.groups.now) c.loop-group.body.locals (counted_seen c.resolve_group.new.body)))
          (sym (ap (map group_of) c.in_ok-push.ensures.ok ∙ map_push group_of c.loop-group.resolved.items c.in_ok-group.group))
          ∙ ap (λ ls. loops.with_groups (tables_seen c.args.scope.now.table.now) (standing_seen c.args.scope.now)
          (around_seen c.args.around.now) (map group_of c.push.new.self.items)
          (loops.left_groups (tables_seen c.args.scope.now.table.now) (standing_seen c.args.scope.now) (around_seen c.args.around.now)
          (source.enum_of c.args.of.now.of.now) (drop (c.loop-group.group-index + 1) c.args.groups.now) ls
          (counted_seen c.resolve_group.new.body))) (sym c.in_ok-group.ensures.locals);
      locals = c.in_ok-group.ensures.locals ∙ c.loop-group.invariant.locals;
    }

pub resolve_groups-returns-in_err-group-clause-it : goal.resolve_groups-returns-in_err-group-clause-it
resolve_groups-returns-in_err-group-clause-it t c =
    let p = err_from_is_err_and c.from_residual.result c.from_residual.ensures.1 in
    rw (p.1, p.2)
    (loops.groups_fail (tables_seen c.args.scope.now.table.now) (standing_seen c.args.scope.now) (around_seen c.args.around.now)
    (source.enum_of c.args.of.now.of.now) (groups (tables_seen c.args.scope.now.table.now) (standing_seen c.args.scope.now)
    (source.groups_of (map source.group_of c.args.groups.now)) (source.enum_of c.args.of.now.of.now) (around_seen c.args.around.now)
    c.args.body.now.locals (counted_seen c.args.body.now)) (map group_of c.loop-group.resolved.items)
    (drop c.loop-group.group-index c.args.groups.now) c.loop-group.body.locals (counted_seen c.loop-group.body)
    c.loop-group.invariant.so_far c.group-item.result (drop (c.loop-group.group-index + 1) c.args.groups.now)
    (drop_at c.args.groups.now c.loop-group.group-index c.group-item.result c.loop-group-test.true c.group-item.is)
    c.in_err-group.field-0.0 c.in_err-group.ensures.it)

pub resolve_groups-returns-clause-it : goal.resolve_groups-returns-clause-it
resolve_groups-returns-clause-it t c =
    loops.groups_done (tables_seen c.args.scope.now.table.now) (standing_seen c.args.scope.now) (around_seen c.args.around.now)
    (source.enum_of c.args.of.now.of.now) (groups (tables_seen c.args.scope.now.table.now) (standing_seen c.args.scope.now)
    (source.groups_of (map source.group_of c.args.groups.now)) (source.enum_of c.args.of.now.of.now) (around_seen c.args.around.now)
    c.args.body.now.locals (counted_seen c.args.body.now)) (map group_of c.loop-group.resolved.items)
    (drop c.loop-group.group-index c.args.groups.now) c.loop-group.body.locals (counted_seen c.loop-group.body)
    c.loop-group.invariant.so_far (drop_end c.args.groups.now c.loop-group.group-index c.loop-group-test.false)

pub resolve_item-returns-in-Some : goal.resolve_item-returns-in-Some
resolve_item-returns-in-Some t c =
    gives_as (λ s. itemed (stmt_of s) c.resolve_local.new.body.locals (counted_seen c.resolve_local.new.body)) c.resolve_local.result _ _
    (item_local (tables_seen c.args.scope.now.table.now) (standing_seen c.args.scope.now) (around_seen c.args.around.now)
    c.args.body.now.locals (counted_seen c.args.body.now) (source.stmt_of c.args.stmt.now) (written_seen c.in-Some.written)
    (sym c.in-Some.ensures)) c.resolve_local.ensures

pub resolve_item-returns-in-None : goal.resolve_item-returns-in-None
resolve_item-returns-in-None t c =
    gives_as (λ s. itemed (stmt_of s) c.resolve_stmt.new.body.locals (counted_seen c.resolve_stmt.new.body)) c.resolve_stmt.result _ _
    (item_other (tables_seen c.args.scope.now.table.now) (standing_seen c.args.scope.now) (around_seen c.args.around.now)
    c.args.body.now.locals (counted_seen c.args.body.now) (source.stmt_of c.args.stmt.now) (sym c.in-None.ensures))
    (in_same_scope stmt_of c.resolve_stmt.result c.args.body.now.locals c.resolve_stmt.new.body.locals
    (counted_seen c.resolve_stmt.new.body) (stmt (tables_seen c.args.scope.now.table.now) (standing_seen c.args.scope.now)
    (source.stmt_of c.args.stmt.now) (around_seen c.args.around.now) c.args.body.now.locals (counted_seen c.args.body.now))
    c.resolve_stmt.ensures.it c.resolve_stmt.ensures.locals)

pub resolve_group-returns-in_err-labels-clause-it : goal.resolve_group-returns-in_err-labels-clause-it
resolve_group-returns-in_err-labels-clause-it t c =
    let p = err_from_is_err_and c.from_residual.result c.from_residual.ensures.1 in
    rw (p.1, p.2)
    (fails_as c.in_err-labels.field-0.0 _ _
    (ap (λ g. group_at (tables_seen c.args.scope.now.table.now) (standing_seen c.args.scope.now) g
    (source.enum_of c.args.of.now.of.now) (around_seen c.args.around.now) c.args.body.now.locals (counted_seen c.args.body.now))
    (source_group-is c.args.group.now))
    (group_labels_fail (tables_seen c.args.scope.now.table.now) (standing_seen c.args.scope.now) (source.enum_of c.args.of.now.of.now)
    (around_seen c.args.around.now) c.args.body.now.locals (counted_seen c.args.body.now) (out-Group c.args.group.now).labels.items
    (source.stmts_of (map source.stmt_of (out-Group c.args.group.now).body.items)) (out-Group c.args.group.now).end
    c.in_err-labels.field-0.0 (fails_as c.in_err-labels.field-0.0 _ _ (ap (labels_at (source.enum_of c.args.of.now.of.now))
    (sym c.as_slice.ensures.items)) c.in_err-labels.ensures)))

pub resolve_group-returns-in_err-inner-clause-it : goal.resolve_group-returns-in_err-inner-clause-it
resolve_group-returns-in_err-inner-clause-it t c =
    let p = err_from_is_err_and c.from_residual-in_err-inner.result c.from_residual-in_err-inner.ensures.1 in
    rw (p.1, p.2)
    (fails_as c.in_err-inner.field-0.0 _ _
    (ap (λ g. group_at (tables_seen c.args.scope.now.table.now) (standing_seen c.args.scope.now) g
    (source.enum_of c.args.of.now.of.now) (around_seen c.args.around.now) c.args.body.now.locals (counted_seen c.args.body.now))
    (source_group-is c.args.group.now))
    (group_body_fails (tables_seen c.args.scope.now.table.now) (standing_seen c.args.scope.now) (source.enum_of c.args.of.now.of.now)
    (around_seen c.args.around.now) c.args.body.now.locals (counted_seen c.args.body.now) (out-Group c.args.group.now).labels.items
    (source.stmts_of (map source.stmt_of (out-Group c.args.group.now).body.items)) (out-Group c.args.group.now).end
    c.in_err-inner.field-0.0 c.in_ok-labels.labels.items (ap (labels_at (source.enum_of c.args.of.now.of.now))
    (sym c.as_slice.ensures.items) ∙ c.in_ok-labels.ensures)
    (fails_as c.in_err-inner.field-0.0 _ _
    (ap (λ ys. stmts (tables_seen c.args.scope.now.table.now) (standing_seen c.args.scope.now)
    (source.stmts_of (map source.stmt_of ys)) (around_seen c.args.around.now) c.args.body.now.locals (counted_seen c.args.body.now))
    (sym c.as_slice-2.ensures.items)) c.in_err-inner.ensures.it)))

pub resolve_group-returns-clause-it : goal.resolve_group-returns-clause-it
resolve_group-returns-clause-it t c =
    ap (λ g. group_at (tables_seen c.args.scope.now.table.now) (standing_seen c.args.scope.now) g (source.enum_of c.args.of.now.of.now)
    (around_seen c.args.around.now) c.args.body.now.locals (counted_seen c.args.body.now)) (source_group-is c.args.group.now)
    ∙ group_made (tables_seen c.args.scope.now.table.now) (standing_seen c.args.scope.now) (source.enum_of c.args.of.now.of.now)
    (around_seen c.args.around.now) c.args.body.now.locals (counted_seen c.args.body.now) (out-Group c.args.group.now).labels.items
    (source.stmts_of (map source.stmt_of (out-Group c.args.group.now).body.items)) (out-Group c.args.group.now).end
    c.in_ok-labels.labels.items (counting (map stmt_of c.in_ok-inner.inner.items) (counted_seen c.resolve_stmts.new.body))
    (ap (labels_at (source.enum_of c.args.of.now.of.now)) (sym c.as_slice.ensures.items) ∙ c.in_ok-labels.ensures)
    (ap (λ ys. stmts (tables_seen c.args.scope.now.table.now) (standing_seen c.args.scope.now)
    (source.stmts_of (map source.stmt_of ys)) (around_seen c.args.around.now) c.args.body.now.locals (counted_seen c.args.body.now))
    (sym c.as_slice-2.ensures.items) ∙ c.in_ok-inner.ensures.it)
    ∙ ap (λ g. Some (counting g (counted_seen c.resolve_stmts.new.body))) (sym (laws.group_of-roll _))

pub resolve_stmt-returns-in_err-test-in-None-clause-it : goal.resolve_stmt-returns-in_err-test-in-None-clause-it
resolve_stmt-returns-in_err-test-in-None-clause-it t c =
    let p = err_from_is_err_and c.from_residual-in_err-test-in-None.result c.from_residual-in_err-test-in-None.ensures.1 in
    rw (p.1, p.2)
    (fails_as c.in_err-test-in-None.field-0.0 _ _
    (ap (λ x. stmt (tables_seen c.args.scope.now.table.now) (standing_seen c.args.scope.now) x (around_seen c.args.around.now)
    c.args.body.now.locals (counted_seen c.args.body.now)) (shapes.shape-If c.args.stmt.now c.in-If.test c.in-If.then
    (c.in-If.is ∙ ap (kinds.If c.in-If.test c.in-If.then) c.in-None.is)))
    (steps.if_test_fails (tables_seen c.args.scope.now.table.now) (standing_seen c.args.scope.now) (around_seen c.args.around.now)
    c.args.body.now.locals (counted_seen c.args.body.now) c.args.stmt.now.place (source.expr_of c.in-If.test)
    (source.stmt_of c.in-If.then.value) c.in_err-test-in-None.field-0.0
    (fails_as c.in_err-test-in-None.field-0.0 _ _
    (ap (λ ls. resolved (tables_seen c.args.scope.now.table.now) (standing_seen c.args.scope.now) ls (source.expr_of c.in-If.test))
    (sym c.in_ok-then-in-None.ensures.locals)) c.in_err-test-in-None.ensures)))

pub resolve_stmt-returns-in_err-then-in-None-clause-it : goal.resolve_stmt-returns-in_err-then-in-None-clause-it
resolve_stmt-returns-in_err-then-in-None-clause-it t c =
    let p = err_from_is_err_and c.from_residual-in_err-then-in-None.result c.from_residual-in_err-then-in-None.ensures.1 in
    rw (p.1, p.2)
    (fails_as c.in_err-then-in-None.field-0.0 _ _
    (ap (λ x. stmt (tables_seen c.args.scope.now.table.now) (standing_seen c.args.scope.now) x (around_seen c.args.around.now)
    c.args.body.now.locals (counted_seen c.args.body.now)) (shapes.shape-If c.args.stmt.now c.in-If.test c.in-If.then
    (c.in-If.is ∙ ap (kinds.If c.in-If.test c.in-If.then) c.in-None.is)))
    (steps.if_fails (tables_seen c.args.scope.now.table.now) (standing_seen c.args.scope.now) (around_seen c.args.around.now)
    c.args.body.now.locals (counted_seen c.args.body.now) c.args.stmt.now.place (source.expr_of c.in-If.test)
    (source.stmt_of c.in-If.then.value) c.in_err-then-in-None.field-0.0
    (fails_as c.in_err-then-in-None.field-0.0 _ _
    (ap (λ y. stmt (tables_seen c.args.scope.now.table.now) (standing_seen c.args.scope.now) (source.stmt_of y)
    (around_seen c.args.around.now) c.args.body.now.locals (counted_seen c.args.body.now)) (sym c.deref.ensures))
    c.in_err-then-in-None.ensures.it)))

pub resolve_stmt-returns-in_ok-test-in-None-clause-it : goal.resolve_stmt-returns-in_ok-test-in-None-clause-it
resolve_stmt-returns-in_ok-test-in-None-clause-it t c =
    ap (λ x. stmt (tables_seen c.args.scope.now.table.now) (standing_seen c.args.scope.now) x (around_seen c.args.around.now)
    c.args.body.now.locals (counted_seen c.args.body.now)) (shapes.shape-If c.args.stmt.now c.in-If.test c.in-If.then
    (c.in-If.is ∙ ap (kinds.If c.in-If.test c.in-If.then) c.in-None.is))
    ∙ steps.if_made (tables_seen c.args.scope.now.table.now) (standing_seen c.args.scope.now) (around_seen c.args.around.now)
    c.args.body.now.locals (counted_seen c.args.body.now) c.args.stmt.now.place (source.expr_of c.in-If.test)
    (source.stmt_of c.in-If.then.value) (resolved_seen c.in_ok-test-in-None.test) (counting (stmt_of c.in_ok-then-in-None.then.value)
    (counted_seen c.resolve_inner.new.body)) (stmt_of c.stmt_at-in-None.result)
    (ap (λ ls. resolved (tables_seen c.args.scope.now.table.now) (standing_seen c.args.scope.now) ls (source.expr_of c.in-If.test))
    (sym c.in_ok-then-in-None.ensures.locals) ∙ c.in_ok-test-in-None.ensures)
    (ap (λ y. stmt (tables_seen c.args.scope.now.table.now) (standing_seen c.args.scope.now) (source.stmt_of y)
    (around_seen c.args.around.now) c.args.body.now.locals (counted_seen c.args.body.now)) (sym c.deref.ensures) ∙
    c.in_ok-then-in-None.ensures.it)
    (c.stmt_at-in-None.ensures ∙ laws.stmt-If-None c.in_ok-test-in-None.test.expr c.in_ok-then-in-None.then c.args.stmt.now.place)

pub resolve_stmt-returns-in_err-test-in-Some-clause-it : goal.resolve_stmt-returns-in_err-test-in-Some-clause-it
resolve_stmt-returns-in_err-test-in-Some-clause-it t c =
    let p = err_from_is_err_and c.from_residual-in_err-test-in-Some.result c.from_residual-in_err-test-in-Some.ensures.1 in
    rw (p.1, p.2)
    (fails_as c.in_err-test-in-Some.field-0.0 _ _
    (ap (λ x. stmt (tables_seen c.args.scope.now.table.now) (standing_seen c.args.scope.now) x (around_seen c.args.around.now)
    c.args.body.now.locals (counted_seen c.args.body.now)) (shapes.shape-IfElse c.args.stmt.now c.in-If.test c.in-If.then
    c.in-Some.otherwise (c.in-If.is ∙ ap (kinds.If c.in-If.test c.in-If.then) c.in-Some.is)))
    (steps.else_test_fails (tables_seen c.args.scope.now.table.now) (standing_seen c.args.scope.now) (around_seen c.args.around.now)
    c.args.body.now.locals (counted_seen c.args.body.now) c.args.stmt.now.place (source.expr_of c.in-If.test)
    (source.stmt_of c.in-If.then.value) (source.stmt_of c.in-Some.otherwise.value) c.in_err-test-in-Some.field-0.0
    (fails_as c.in_err-test-in-Some.field-0.0 _ _
    (ap (λ ls. resolved (tables_seen c.args.scope.now.table.now) (standing_seen c.args.scope.now) ls (source.expr_of c.in-If.test))
    (sym (c.in_ok-otherwise-in-Some.ensures.locals ∙ c.in_ok-then-in-Some.ensures.locals))) c.in_err-test-in-Some.ensures)))

pub resolve_stmt-returns-in_err-then-in-Some-clause-it : goal.resolve_stmt-returns-in_err-then-in-Some-clause-it
resolve_stmt-returns-in_err-then-in-Some-clause-it t c =
    let p = err_from_is_err_and c.from_residual-in_err-then-in-Some.result c.from_residual-in_err-then-in-Some.ensures.1 in
    rw (p.1, p.2)
    (fails_as c.in_err-then-in-Some.field-0.0 _ _
    (ap (λ x. stmt (tables_seen c.args.scope.now.table.now) (standing_seen c.args.scope.now) x (around_seen c.args.around.now)
    c.args.body.now.locals (counted_seen c.args.body.now)) (shapes.shape-IfElse c.args.stmt.now c.in-If.test c.in-If.then
    c.in-Some.otherwise (c.in-If.is ∙ ap (kinds.If c.in-If.test c.in-If.then) c.in-Some.is)))
    (steps.else_first_fails (tables_seen c.args.scope.now.table.now) (standing_seen c.args.scope.now) (around_seen c.args.around.now)
    c.args.body.now.locals (counted_seen c.args.body.now) c.args.stmt.now.place (source.expr_of c.in-If.test)
    (source.stmt_of c.in-If.then.value) (source.stmt_of c.in-Some.otherwise.value) c.in_err-then-in-Some.field-0.0
    (fails_as c.in_err-then-in-Some.field-0.0 _ _
    (ap (λ y. stmt (tables_seen c.args.scope.now.table.now) (standing_seen c.args.scope.now) (source.stmt_of y)
    (around_seen c.args.around.now) c.args.body.now.locals (counted_seen c.args.body.now)) (sym c.deref-in-Some.ensures))
    c.in_err-then-in-Some.ensures.it)))

pub resolve_stmt-returns-in_err-otherwise-in-Some-clause-it : goal.resolve_stmt-returns-in_err-otherwise-in-Some-clause-it
resolve_stmt-returns-in_err-otherwise-in-Some-clause-it t c =
    let p = err_from_is_err_and c.from_residual-in_err-otherwise-in-Some.result c.from_residual-in_err-otherwise-in-Some.ensures.1 in
    rw (p.1, p.2)
    (fails_as c.in_err-otherwise-in-Some.field-0.0 _ _
    (ap (λ x. stmt (tables_seen c.args.scope.now.table.now) (standing_seen c.args.scope.now) x (around_seen c.args.around.now)
    c.args.body.now.locals (counted_seen c.args.body.now)) (shapes.shape-IfElse c.args.stmt.now c.in-If.test c.in-If.then
    c.in-Some.otherwise (c.in-If.is ∙ ap (kinds.If c.in-If.test c.in-If.then) c.in-Some.is)))
    (steps.else_fails (tables_seen c.args.scope.now.table.now) (standing_seen c.args.scope.now) (around_seen c.args.around.now)
    c.args.body.now.locals (counted_seen c.args.body.now) c.args.stmt.now.place (source.expr_of c.in-If.test)
    (source.stmt_of c.in-If.then.value) (source.stmt_of c.in-Some.otherwise.value) c.in_err-otherwise-in-Some.field-0.0
    (counting (stmt_of c.in_ok-then-in-Some.then.value) (counted_seen c.resolve_inner-in-Some.new.body))
    (ap (λ y. stmt (tables_seen c.args.scope.now.table.now) (standing_seen c.args.scope.now) (source.stmt_of y)
    (around_seen c.args.around.now) c.args.body.now.locals (counted_seen c.args.body.now)) (sym c.deref-in-Some.ensures) ∙
    c.in_ok-then-in-Some.ensures.it)
    (fails_as c.in_err-otherwise-in-Some.field-0.0 _ _
    (ap (λ ls. stmt (tables_seen c.args.scope.now.table.now) (standing_seen c.args.scope.now)
    (source.stmt_of c.in-Some.otherwise.value) (around_seen c.args.around.now) ls (counted_seen c.resolve_inner-in-Some.new.body))
    (sym c.in_ok-then-in-Some.ensures.locals) ∙ ap (λ y. stmt (tables_seen c.args.scope.now.table.now) (standing_seen c.args.scope.now)
    (source.stmt_of y) (around_seen c.args.around.now) c.resolve_inner-in-Some.new.body.locals
    (counted_seen c.resolve_inner-in-Some.new.body)) (sym c.deref-in-Some-2.ensures)) c.in_err-otherwise-in-Some.ensures.it)))

pub resolve_stmt-returns-in_ok-test-in-Some-clause-it : goal.resolve_stmt-returns-in_ok-test-in-Some-clause-it
resolve_stmt-returns-in_ok-test-in-Some-clause-it t c =
    ap (λ x. stmt (tables_seen c.args.scope.now.table.now) (standing_seen c.args.scope.now) x (around_seen c.args.around.now)
    c.args.body.now.locals (counted_seen c.args.body.now)) (shapes.shape-IfElse c.args.stmt.now c.in-If.test c.in-If.then
    c.in-Some.otherwise (c.in-If.is ∙ ap (kinds.If c.in-If.test c.in-If.then) c.in-Some.is))
    ∙ steps.else_made (tables_seen c.args.scope.now.table.now) (standing_seen c.args.scope.now) (around_seen c.args.around.now)
    c.args.body.now.locals (counted_seen c.args.body.now) c.args.stmt.now.place (source.expr_of c.in-If.test)
    (source.stmt_of c.in-If.then.value) (source.stmt_of c.in-Some.otherwise.value) (resolved_seen c.in_ok-test-in-Some.test)
    (counting (stmt_of c.in_ok-then-in-Some.then.value) (counted_seen c.resolve_inner-in-Some.new.body))
    (counting (stmt_of c.in_ok-otherwise-in-Some.otherwise.value) (counted_seen c.resolve_inner-in-Some-2.new.body))
    (stmt_of c.stmt_at-in-Some.result)
    (ap (λ ls. resolved (tables_seen c.args.scope.now.table.now) (standing_seen c.args.scope.now) ls (source.expr_of c.in-If.test))
    (sym (c.in_ok-otherwise-in-Some.ensures.locals ∙ c.in_ok-then-in-Some.ensures.locals)) ∙ c.in_ok-test-in-Some.ensures)
    (ap (λ y. stmt (tables_seen c.args.scope.now.table.now) (standing_seen c.args.scope.now) (source.stmt_of y)
    (around_seen c.args.around.now) c.args.body.now.locals (counted_seen c.args.body.now)) (sym c.deref-in-Some.ensures) ∙
    c.in_ok-then-in-Some.ensures.it)
    (ap (λ ls. stmt (tables_seen c.args.scope.now.table.now) (standing_seen c.args.scope.now) (source.stmt_of c.in-Some.otherwise.value)
    (around_seen c.args.around.now) ls (counted_seen c.resolve_inner-in-Some.new.body)) (sym c.in_ok-then-in-Some.ensures.locals) ∙
    ap (λ y. stmt (tables_seen c.args.scope.now.table.now) (standing_seen c.args.scope.now) (source.stmt_of y)
    (around_seen c.args.around.now) c.resolve_inner-in-Some.new.body.locals (counted_seen c.resolve_inner-in-Some.new.body))
    (sym c.deref-in-Some-2.ensures) ∙ c.in_ok-otherwise-in-Some.ensures.it)
    (c.stmt_at-in-Some.ensures ∙ laws.stmt-If-Some c.in_ok-test-in-Some.test.expr c.in_ok-then-in-Some.then
    c.in_ok-otherwise-in-Some.otherwise c.args.stmt.now.place)

pub resolve_inner-returns-in_err-resolved-clause-it : goal.resolve_inner-returns-in_err-resolved-clause-it
resolve_inner-returns-in_err-resolved-clause-it t c =
    let p = err_from_is_err_and c.from_residual.result c.from_residual.ensures.1 in
    rw (p.1, p.2) c.in_err-resolved.ensures.it

pub resolve_inner-returns-clause-it : goal.resolve_inner-returns-clause-it
resolve_inner-returns-clause-it t c = c.in_ok-resolved.ensures.it ∙
    ap (λ y. Some (counting (stmt_of y) (counted_seen c.resolve_stmt.new.body))) (sym c.in_ok-boxed.ensures)

pub resolve_inner-returns-clause-locals : goal.resolve_inner-returns-clause-locals
resolve_inner-returns-clause-locals t c = c.in_ok-resolved.ensures.locals

pub resolve_stmt-returns-in_ok-inner-in-Block-clause-locals : goal.resolve_stmt-returns-in_ok-inner-in-Block-clause-locals
resolve_stmt-returns-in_ok-inner-in-Block-clause-locals t c = c.in_ok-inner-in-Block.ensures.locals

pub resolve_stmt-returns-in-Empty-clause-locals : goal.resolve_stmt-returns-in-Empty-clause-locals
resolve_stmt-returns-in-Empty-clause-locals t c = refl

pub resolve_stmt-returns-in_ok-declared-in-Local-clause-locals : goal.resolve_stmt-returns-in_ok-declared-in-Local-clause-locals
resolve_stmt-returns-in_ok-declared-in-Local-clause-locals t c = c.in_ok-declared-in-Local.ensures.locals

pub resolve_stmt-returns-in_ok-test-in-None-clause-locals : goal.resolve_stmt-returns-in_ok-test-in-None-clause-locals
resolve_stmt-returns-in_ok-test-in-None-clause-locals t c = c.in_ok-then-in-None.ensures.locals

pub resolve_stmt-returns-in_ok-test-in-Some-clause-locals : goal.resolve_stmt-returns-in_ok-test-in-Some-clause-locals
resolve_stmt-returns-in_ok-test-in-Some-clause-locals t c = c.in_ok-otherwise-in-Some.ensures.locals ∙ c.in_ok-then-in-Some.ensures.locals

pub resolve_stmt-returns-in_ok-test-in-While-clause-locals : goal.resolve_stmt-returns-in_ok-test-in-While-clause-locals
resolve_stmt-returns-in_ok-test-in-While-clause-locals t c = c.in_ok-inner-in-While.ensures.locals ∙ c.in_ok-number-in-While.ensures.locals

pub resolve_stmt-returns-in_ok-test-in-Do-clause-locals : goal.resolve_stmt-returns-in_ok-test-in-Do-clause-locals
resolve_stmt-returns-in_ok-test-in-Do-clause-locals t c = c.in_ok-inner-in-Do.ensures.locals ∙ c.in_ok-number-in-Do.ensures.locals

pub resolve_stmt-returns-in_ok-groups-in-Switch-clause-locals : goal.resolve_stmt-returns-in_ok-groups-in-Switch-clause-locals
resolve_stmt-returns-in_ok-groups-in-Switch-clause-locals t c = c.in_ok-groups-in-Switch.ensures.locals

pub resolve_stmt-returns-in-Assign-clause-locals : goal.resolve_stmt-returns-in-Assign-clause-locals
resolve_stmt-returns-in-Assign-clause-locals t c = always_ok c.assigned.result refl

pub resolve_stmt-returns-in-Return-clause-locals : goal.resolve_stmt-returns-in-Return-clause-locals
resolve_stmt-returns-in-Return-clause-locals t c = always_ok c.returned.result refl

pub resolve_stmt-returns-in-Print-clause-locals : goal.resolve_stmt-returns-in-Print-clause-locals
resolve_stmt-returns-in-Print-clause-locals t c = always_ok c.printed.result refl

pub resolve_stmt-returns-in-Eval-clause-locals : goal.resolve_stmt-returns-in-Eval-clause-locals
resolve_stmt-returns-in-Eval-clause-locals t c = always_ok c.evaluated.result refl

pub resolve_stmt-returns-in-Break-clause-locals : goal.resolve_stmt-returns-in-Break-clause-locals
resolve_stmt-returns-in-Break-clause-locals t c = always_ok c.broken.result refl

pub resolve_stmt-returns-in-Continue-clause-locals : goal.resolve_stmt-returns-in-Continue-clause-locals
resolve_stmt-returns-in-Continue-clause-locals t c = always_ok c.continued.result refl
