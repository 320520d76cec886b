use Rattle.jv_types.proofs.Mentioned.{group_steps}
use Rattle.jv_types.proofs.Mentioned.{mentioned}
use Rattle.jv_types.proofs.Mentioned.{stmt_steps}
use Rattle.std.proofs.Common.{List, sym, ap, ◌∙◌, map, arith}
use Rattle.jv_tree.specs.declared.tree.Stmt.{Stmt}
use Rattle.jv_tree.specs.View.{stmt_of, stmts_of}
use Rattle.jv_rules.specs.Members.{mentions_in_stmts}
use Rattle.jv_rules.specs.inner.Deciding.{first_by}
use Rattle.jv_types.specs.Tables.{program_in}
use Rattle.jv_types.specs.inner.Blaming.{blamed_of}
use Rattle.jv_types.specs.inner.Declaring.{unknown_class}
use Rattle.jv_types.proofs.Chains.{found_here, missed_here}
use Rattle.jv_types.proofs.Mentioned.{stmts-step, groups-step}
use Rattle.jv_types.proofs.mentions.+mentioned.Goals as goal

pub unknown_in_groups-returns-then-is_some : goal.unknown_in_groups-returns-then-is_some
unknown_in_groups-returns-then-is_some t c =
    found_here blamed_of c.unknown_in_stmts-found.result _ _ _ (groups-step (unknown_class (program_in c.args.table.now)) c.args.groups.now
    c.loop-item.item-index c.item-item.result c.loop-item-test.true c.item-item.is) (c.unknown_in_stmts-found.ensures ∙
    ap (λ (l : List Stmt). first_by (unknown_class (program_in c.args.table.now)) (mentions_in_stmts (stmts_of (map stmt_of l))))
    c.as_slice.ensures.items) (sym c.if-is_some.true ∙ c.is_some.ensures) ∙ c.loop-item.invariant

pub unknown_in_groups-loop-item-preserved : goal.unknown_in_groups-loop-item-preserved
unknown_in_groups-loop-item-preserved t c =
    sym (missed_here blamed_of c.unknown_in_stmts-found.result _ _ _ (groups-step (unknown_class (program_in c.args.table.now))
    c.args.groups.now c.loop-item.item-index c.item-item.result c.loop-item-test.true c.item-item.is) (c.unknown_in_stmts-found.ensures
    ∙ ap (λ (l : List Stmt). first_by (unknown_class (program_in c.args.table.now)) (mentions_in_stmts (stmts_of (map stmt_of l))))
    c.as_slice.ensures.items) (sym c.if-is_some.false ∙ c.is_some.ensures)) ∙ c.loop-item.invariant

pub unknown_in_stmts-returns-then-is_some : goal.unknown_in_stmts-returns-then-is_some
unknown_in_stmts-returns-then-is_some t c =
    found_here blamed_of c.unknown_in_stmt-found.result _ _ _ (stmts-step (unknown_class (program_in c.args.table.now)) c.args.body.now
    c.loop-item.item-index c.item-item.result c.loop-item-test.true c.item-item.is) c.unknown_in_stmt-found.ensures
    (sym c.if-is_some.true ∙ c.is_some.ensures) ∙ c.loop-item.invariant

pub unknown_in_stmts-loop-item-preserved : goal.unknown_in_stmts-loop-item-preserved
unknown_in_stmts-loop-item-preserved t c =
    sym (missed_here blamed_of c.unknown_in_stmt-found.result _ _ _ (stmts-step (unknown_class (program_in c.args.table.now))
    c.args.body.now c.loop-item.item-index c.item-item.result c.loop-item-test.true c.item-item.is) c.unknown_in_stmt-found.ensures
    (sym c.if-is_some.false ∙ c.is_some.ensures)) ∙ c.loop-item.invariant

pub unknown_in_groups-returns : goal.unknown_in_groups-returns
unknown_in_groups-returns t c = grind (arith, group_steps)

pub unknown_in_stmt-returns-else-is_some-3 : goal.unknown_in_stmt-returns-else-is_some-3
unknown_in_stmt-returns-else-is_some-3 t c = grind (arith, mentioned)

pub unknown_in_stmt-returns-else-is_some-4 : goal.unknown_in_stmt-returns-else-is_some-4
unknown_in_stmt-returns-else-is_some-4 t c = grind (arith, mentioned)

pub unknown_in_stmt-returns-else-is_some-5 : goal.unknown_in_stmt-returns-else-is_some-5
unknown_in_stmt-returns-else-is_some-5 t c = grind (arith, mentioned)

pub unknown_in_stmt-returns-in-Assign : goal.unknown_in_stmt-returns-in-Assign
unknown_in_stmt-returns-in-Assign t c = grind (arith, mentioned)

pub unknown_in_stmt-returns-in-Block : goal.unknown_in_stmt-returns-in-Block
unknown_in_stmt-returns-in-Block t c = grind (arith, mentioned)

pub unknown_in_stmt-returns-in-Empty : goal.unknown_in_stmt-returns-in-Empty
unknown_in_stmt-returns-in-Empty t c = grind (arith, mentioned)

pub unknown_in_stmt-returns-in-Eval : goal.unknown_in_stmt-returns-in-Eval
unknown_in_stmt-returns-in-Eval t c = grind (arith, mentioned)

pub unknown_in_stmt-returns-in-Local : goal.unknown_in_stmt-returns-in-Local
unknown_in_stmt-returns-in-Local t c = grind (arith, mentioned)

pub unknown_in_stmt-returns-in-Print : goal.unknown_in_stmt-returns-in-Print
unknown_in_stmt-returns-in-Print t c = grind (arith, mentioned)

pub unknown_in_stmt-returns-in-Return : goal.unknown_in_stmt-returns-in-Return
unknown_in_stmt-returns-in-Return t c = grind (arith, mentioned)

pub unknown_in_stmt-returns-in-Some : goal.unknown_in_stmt-returns-in-Some
unknown_in_stmt-returns-in-Some t c = grind (arith, mentioned)

pub unknown_in_stmt-returns-in_default : goal.unknown_in_stmt-returns-in_default
unknown_in_stmt-returns-in_default t c = grind (arith, mentioned)

pub unknown_in_stmt-returns-then-is_some : goal.unknown_in_stmt-returns-then-is_some
unknown_in_stmt-returns-then-is_some t c = grind (arith, mentioned)

pub unknown_in_stmt-returns-then-is_some-2 : goal.unknown_in_stmt-returns-then-is_some-2
unknown_in_stmt-returns-then-is_some-2 t c = grind (arith, mentioned)

pub unknown_in_stmt-returns-then-is_some-3 : goal.unknown_in_stmt-returns-then-is_some-3
unknown_in_stmt-returns-then-is_some-3 t c = grind (arith, mentioned)

pub unknown_in_stmt-returns-then-is_some-4 : goal.unknown_in_stmt-returns-then-is_some-4
unknown_in_stmt-returns-then-is_some-4 t c = grind (arith, mentioned)

pub unknown_in_stmt-returns-then-is_some-5 : goal.unknown_in_stmt-returns-then-is_some-5
unknown_in_stmt-returns-then-is_some-5 t c = grind (arith, mentioned)

pub unknown_in_stmts-returns : goal.unknown_in_stmts-returns
unknown_in_stmts-returns t c = grind (arith, stmt_steps)
