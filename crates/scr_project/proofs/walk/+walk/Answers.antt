use Rattle.std.proofs.Common.{List, sym, ap, ◌∙◌, arith}
use Rattle.scr_global_tree.specs.View.{statements}
use Rattle.scr_global_tree.specs.declared.statement.GStatement.{GStatement}
use Rattle.scr_project.specs.inner.Walk.{found}
use Rattle.scr_project.specs.inner.View.{names_of, found_of, each_of}
use Rattle.scr_project.proofs.Steps.{found_later, found_passed, found_past, each_later, each_past}
use Rattle.scr_project.proofs.walk.+walk.Goals as goal

pub found_all-loop-statement-preserved : goal.found_all-loop-statement-preserved
found_all-loop-statement-preserved t c =
    c.loop-statement.invariant
    ∙ found_later c.args.me.now (names_of c.args.around.now) c.args.body.now c.loop-statement.statement-index c.statement-item.result
    c.loop-statement-test.true c.statement-item.is
    (found_of c.loop-statement.part) (found_of c.in_ok-next.next) (found_of c.in_ok-part.part) c.in_ok-next.ensures c.in_ok-part.ensures

pub found_all-loop-statement-preserved-then-passes : goal.found_all-loop-statement-preserved-then-passes
found_all-loop-statement-preserved-then-passes t c =
    c.loop-statement.invariant
    ∙ found_passed c.args.me.now (names_of c.args.around.now) c.args.body.now c.loop-statement.statement-index c.statement-item.result
    c.loop-statement-test.true c.statement-item.is (sym c.passes.ensures ∙ c.if-passes.true) (found_of c.loop-statement.part)

pub found_all-returns : goal.found_all-returns
found_all-returns t c =
    sym (c.loop-statement.invariant
    ∙ found_past c.args.me.now (names_of c.args.around.now) c.args.body.now c.loop-statement.statement-index
    (found_of c.loop-statement.part) (omega arith))

pub found_in-loop-branch-preserved : goal.found_in-loop-branch-preserved
found_in-loop-branch-preserved t c =
    c.loop-branch.invariant
    ∙ each_later c.args.me.now (names_of c.args.around.now) c.args.branches.now c.loop-branch.branch-index c.branch-item.result
    c.loop-branch-test.true c.branch-item.is
    (each_of c.loop-branch.each) (found_of c.in_ok-next.next) (each_of c.in_ok-each.each)
    (c.in_ok-next.ensures ∙ ap (λ (b : List GStatement). found c.args.me.now (names_of c.args.around.now) (statements b))
    c.as_slice.ensures.items) c.in_ok-each.ensures

pub found_in-returns : goal.found_in-returns
found_in-returns t c =
    sym (c.loop-branch.invariant
    ∙ each_past c.args.me.now (names_of c.args.around.now) c.args.branches.now c.loop-branch.branch-index (each_of c.loop-branch.each)
    (omega arith))
