use Rattle.std.proofs.Common.{arith, ◌≡◌, ◌++◌, ◌∷◌, [], sym, ◌∙◌}
use Rattle.std.proofs.lemmas.Grind.{common_steps}
use Rattle.std.specs.Prelude.{map}
use Rattle.std.proofs.lemmas.Result.{err_from_is_err_and}
use Rattle.std.proofs.lemmas.List.{map_push}
use Rattle.mg_read.proofs.Loop.{Left-more, Left-done}
use Rattle.jv_tree.proofs.ViewLaws.{views}
use Rattle.jv_tree.specs.View.{stmt_of, group_of}
use Rattle.jv_grammar.specs.Stmts.{block_with, else_with, if_with, labelled_with, loop_with, stmt_with, switch_with, is_case, goes_on}
use Rattle.jv_grammar.specs.Stmts.{stmt_at, item_with, items_with, group_with, groups_with}
use Rattle.jv_parse.specs.inner.Loops.{do_at, while_at}
use Rattle.jv_parse.proofs.StmtTurns.{do_is, while_is, items_start, groups_start, item_at_shorter, group_at_shorter}
use Rattle.jv_parse.proofs.ExprTurns.{Left-fails}
use Rattle.jv_parse.proofs.stmts.+nest_stmts.Goals as goal

pub items_of-items-init : goal.items_of-items-init
items_of-items-init t c = rw c.new-stmts.ensures (items_start c.args.levels c.args.tokens.now)

pub items_of-returns-in_err-stmt : goal.items_of-returns-in_err-stmt
items_of-returns-in_err-stmt t c =
    let p = err_from_is_err_and c.from_residual.result c.from_residual.ensures.1 in
    rw (p.1, p.2) (Left-fails goes_on (item_with c.args.levels (stmt_at c.args.levels)) c.in_err-stmt.field-0.0
    (map stmt_of c.items.stmts.items) c.items.rest.now (items_with c.args.levels (stmt_at c.args.levels) c.args.tokens.now)
    (sym c.goes_on.ensures ∙ c.items-test.true) c.in_err-stmt.ensures c.items.invariant)

pub items_of-items-smaller : goal.items_of-items-smaller
items_of-items-smaller t c = item_at_shorter c.args.levels c.items.rest.now (stmt_of c.in_ok-stmt.stmt) c.in_ok-stmt.after.now
    c.in_ok-stmt.ensures

pub items_of-items-preserved : goal.items_of-items-preserved
items_of-items-preserved t c =
    let one = c.in_ok-stmt.stmt in
    let shorter = item_at_shorter c.args.levels c.items.rest.now (stmt_of one) c.in_ok-stmt.after.now c.in_ok-stmt.ensures in
    let e : map stmt_of c.push.new.self.items ≡ map stmt_of c.items.stmts.items ++ stmt_of one ∷ [] =
    rw c.in_ok-push.ensures.ok (map_push _ c.items.stmts.items one) in
    rw e (Left-more goes_on (item_with c.args.levels (stmt_at c.args.levels)) (map stmt_of c.items.stmts.items) c.items.rest.now
    (stmt_of one) c.in_ok-stmt.after.now (items_with c.args.levels (stmt_at c.args.levels) c.args.tokens.now)
    (sym c.goes_on.ensures ∙ c.items-test.true) c.in_ok-stmt.ensures shorter c.items.invariant)

pub items_of-returns : goal.items_of-returns
items_of-returns t c = Left-done goes_on (item_with c.args.levels (stmt_at c.args.levels)) (map stmt_of c.items.stmts.items)
    c.items.rest.now (items_with c.args.levels (stmt_at c.args.levels) c.args.tokens.now) (sym c.goes_on.ensures ∙ c.items-test.false)
    c.items.invariant

pub groups_of-turns-init : goal.groups_of-turns-init
groups_of-turns-init t c = rw c.new-groups.ensures (groups_start c.args.levels c.args.tokens.now)

pub groups_of-returns-in_err-group : goal.groups_of-returns-in_err-group
groups_of-returns-in_err-group t c =
    let p = err_from_is_err_and c.from_residual.result c.from_residual.ensures.1 in
    rw (p.1, p.2) (Left-fails is_case (group_with c.args.levels (stmt_at c.args.levels)) c.in_err-group.field-0.0
    (map group_of c.turns.groups.items) c.turns.rest.now (groups_with c.args.levels (stmt_at c.args.levels) c.args.tokens.now)
    (sym c.is_case.ensures ∙ c.turns-test.true) c.in_err-group.ensures c.turns.invariant)

pub groups_of-turns-smaller : goal.groups_of-turns-smaller
groups_of-turns-smaller t c = group_at_shorter c.args.levels c.turns.rest.now (group_of c.in_ok-group.group) c.in_ok-group.after.now
    c.in_ok-group.ensures

pub groups_of-turns-preserved : goal.groups_of-turns-preserved
groups_of-turns-preserved t c =
    let one = c.in_ok-group.group in
    let shorter = group_at_shorter c.args.levels c.turns.rest.now (group_of one) c.in_ok-group.after.now c.in_ok-group.ensures in
    let e : map group_of c.push.new.self.items ≡ map group_of c.turns.groups.items ++ group_of one ∷ [] =
    rw c.in_ok-push.ensures.ok (map_push _ c.turns.groups.items one) in
    rw e (Left-more is_case (group_with c.args.levels (stmt_at c.args.levels)) (map group_of c.turns.groups.items) c.turns.rest.now
    (group_of one) c.in_ok-group.after.now (groups_with c.args.levels (stmt_at c.args.levels) c.args.tokens.now)
    (sym c.is_case.ensures ∙ c.turns-test.true) c.in_ok-group.ensures shorter c.turns.invariant)

pub groups_of-returns : goal.groups_of-returns
groups_of-returns t c = Left-done is_case (group_with c.args.levels (stmt_at c.args.levels)) (map group_of c.turns.groups.items)
    c.turns.rest.now (groups_with c.args.levels (stmt_at c.args.levels) c.args.tokens.now) (sym c.is_case.ensures ∙ c.turns-test.false)
    c.turns.invariant

pub block_of-returns : goal.block_of-returns
unfolding block_with
block_of-returns t c = grind (arith, views)

pub group_of-returns : goal.group_of-returns
unfolding group_with
group_of-returns t c = grind (arith, views)

pub if_of-returns : goal.if_of-returns
unfolding if_with else_with
if_of-returns t c = grind (arith, views)

pub if_of-returns-in-Some : goal.if_of-returns-in-Some
unfolding if_with else_with
if_of-returns-in-Some t c = grind (arith, views)

pub loop_of-returns : goal.loop_of-returns
unfolding loop_with
loop_of-returns t c = grind (arith, views, while_is, do_is)

pub loop_of-returns-in_err-start : goal.loop_of-returns-in_err-start
unfolding loop_with
loop_of-returns-in_err-start t c = grind (arith, views, while_is, do_is)

pub loop_of-returns-in_err-start-2 : goal.loop_of-returns-in_err-start-2
unfolding loop_with
loop_of-returns-in_err-start-2 t c = grind (arith, views, while_is, do_is)

pub loop_of-returns-then-is_word : goal.loop_of-returns-then-is_word
unfolding loop_with
loop_of-returns-then-is_word t c = grind (arith, views, while_is, do_is)

pub stmt_of-returns-in_err-place : goal.stmt_of-returns-in_err-place
unfolding stmt_at stmt_with labelled_with
stmt_of-returns-in_err-place t c = grind (arith, common_steps)

pub stmt_of-returns-in_err-rest : goal.stmt_of-returns-in_err-rest
unfolding stmt_at stmt_with labelled_with
stmt_of-returns-in_err-rest t c = grind (arith, common_steps)

pub switch_of-returns : goal.switch_of-returns
unfolding switch_with
switch_of-returns t c = grind (arith, views)

pub do_of-returns : goal.do_of-returns
unfolding do_at
do_of-returns t c = grind (arith, common_steps)

pub group_of-returns-in_default : goal.group_of-returns-in_default
unfolding group_with
group_of-returns-in_default t c = grind (arith, views)

pub inner_of-returns : goal.inner_of-returns
inner_of-returns t c = grind (arith, common_steps)

pub stmt_of-returns : goal.stmt_of-returns
unfolding stmt_at stmt_with labelled_with
stmt_of-returns t c = grind (arith, common_steps)

pub stmt_of-returns-then-is_sign : goal.stmt_of-returns-then-is_sign
unfolding stmt_at stmt_with labelled_with
stmt_of-returns-then-is_sign t c = grind (arith, common_steps)

pub stmt_of-returns-then-is_sign-2 : goal.stmt_of-returns-then-is_sign-2
unfolding stmt_at stmt_with labelled_with
stmt_of-returns-then-is_sign-2 t c = grind (arith, common_steps)

pub stmt_of-returns-then-is_word : goal.stmt_of-returns-then-is_word
unfolding stmt_at stmt_with labelled_with
stmt_of-returns-then-is_word t c = grind (arith, common_steps)

pub stmt_of-returns-then-is_word-2 : goal.stmt_of-returns-then-is_word-2
unfolding stmt_at stmt_with labelled_with
stmt_of-returns-then-is_word-2 t c = grind (arith, common_steps)

pub stmt_of-returns-then-is_word-4 : goal.stmt_of-returns-then-is_word-4
unfolding stmt_at stmt_with labelled_with
stmt_of-returns-then-is_word-4 t c = grind (arith, common_steps)

pub while_of-returns : goal.while_of-returns
unfolding while_at
while_of-returns t c = grind (arith, common_steps)
