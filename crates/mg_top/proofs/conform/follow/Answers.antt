use Rattle.std.proofs.Common.{map, ◌∙◌, refl, arith}
use Rattle.scr_tree.specs.Local.{tree_of}
use Rattle.scr_trace.specs.Walking.{call_said}
use Rattle.mg_calls.specs.Answer.{call_of}
use Rattle.mg_top.proofs.ConformLemmas.{taken_at, refused_at, complete_at, open_at, answered}
use Rattle.mg_top.proofs.conform.follow.Goals as goal

pub loop-line-init : goal.loop-line-init
loop-line-init c = c.in_ok-walk.ensures.taken

pub loop-line-preserved : goal.loop-line-preserved
loop-line-preserved c =
    taken_at (tree_of c.args.local.now) _ c.args.calls.now c.loop-line.line-index _ (call_said c.call_of-call.result) c.loop-line-test.true
    c.call_of-call.ensures
    (c.in-Ok.ensures.taken _ _ c.loop-line.invariant)

pub returns-in-Err-NotOffered : goal.returns-in-Err-NotOffered
returns-in-Err-NotOffered c =
    let told = rw c.in-Err-NotOffered.field-0-is at c.in-Err-NotOffered.ensures in
    answered (tree_of c.args.local.now) (map call_of c.args.calls.now) _ c.as_str.result.now _ c.printed.result c.printed.ensures.actions
    c.printed.ensures.status (c.as_str.ensures ∙ c.in_ok-text-in-Err-NotOffered.ensures)
    (refused_at (tree_of c.args.local.now) _ c.args.calls.now c.loop-line.line-index _ (call_said c.call_of-call.result) c.loop-line-test.true
    c.call_of-call.ensures c.loop-line.invariant
    (λ more. told.no_trace refl (tree_of c.args.local.now) _ more c.loop-line.invariant))

pub returns-then-done : goal.returns-then-done
returns-then-done c =
    answered (tree_of c.args.local.now) (map call_of c.args.calls.now) _ _ _ c.printed-then-done.result c.printed-then-done.ensures.actions
    c.printed-then-done.ensures.status refl
    (complete_at (tree_of c.args.local.now) _ c.args.calls.now c.loop-line.line-index c.done.result (omega arith) c.loop-line.invariant
    (c.done.ensures.complete (tree_of c.args.local.now)) c.if-done.true)

pub returns : goal.returns
returns c =
    answered (tree_of c.args.local.now) (map call_of c.args.calls.now) _ _ _ c.printed-else-done.result c.printed-else-done.ensures.actions
    c.printed-else-done.ensures.status refl
    (open_at (tree_of c.args.local.now) _ c.args.calls.now c.loop-line.line-index c.done.result (omega arith) c.loop-line.invariant
    (c.done.ensures.complete (tree_of c.args.local.now)) c.if-done.false)
