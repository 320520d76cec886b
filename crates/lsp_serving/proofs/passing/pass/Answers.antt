use Rattle.std.proofs.Common.{refl, ◌∙◌}
use Rattle.std.specs.Prelude.{Ok, Err}
use Rattle.std.proofs.lemmas.Result.{err_from_is_err_and}
use Rattle.lsp_serving.proofs.Passes.{still, ends_unread, ends_unput, ends_by_exit, turn_on, at_some, answers_at}
use Rattle.lsp_serving.proofs.passing.pass.Goals as goal

pub loop-body-init : goal.loop-body-init
loop-body-init g c = record {
  known = refl;
  passes = still (g.F.Folders.known c.args.folders.now) c.args.session.now c.args.frames.now (g.S.Sink.bytes c.args.sink.now) c.requires;
}

pub returns-in_err-body-clause-err : goal.returns-in_err-body-clause-err
returns-in_err-body-clause-err g c =
    let p = err_from_is_err_and c.from_residual.result c.from_residual.ensures.1 in
    rw (p.1, p.2) (ends_unread (g.F.Folders.known c.args.folders.now) c.args.session.now c.loop-body.session c.args.frames.now
    c.loop-body.frames (g.S.Sink.bytes c.args.sink.now) (g.S.Sink.bytes c.loop-body.sink) c.loop-body.invariant.passes
    c.in_err-body.field-0.0 c.in_err-body.ensures.err.0)

pub returns-in_err-answer-clause-err : goal.returns-in_err-answer-clause-err
returns-in_err-answer-clause-err g c =
    let p = err_from_is_err_and c.from_residual-in_err-answer.result c.from_residual-in_err-answer.ensures.1 in
    rw (p.1, p.2) (ends_unput (g.F.Folders.known c.args.folders.now) c.args.session.now c.loop-body.session c.args.frames.now
    c.loop-body.frames (g.S.Sink.bytes c.args.sink.now) (g.S.Sink.bytes c.loop-body.sink) c.loop-body.invariant.passes
    c.answer.new.session c.in-Some.body c.next_body.new.frames (g.S.Sink.bytes c.answer.new.sink)
    (at_some c.in_ok-body.field-0 c.in-Some.body _ _ c.in-Some.is c.in_ok-body.ensures.ok)
    c.in_err-answer.field-0.0
    (answers_at (g.F.Folders.known c.loop-body.folders) (g.F.Folders.known c.args.folders.now) c.loop-body.session c.as_slice.result.now
    c.in-Some.body c.answer.new.session (g.S.Sink.bytes c.loop-body.sink) (g.S.Sink.bytes c.answer.new.sink)
    (Err c.in_err-answer.field-0.0)
    c.loop-body.invariant.known c.as_slice.ensures c.in_err-answer.ensures.put))

pub returns-in-Some-ended-clause-err : goal.returns-in-Some-ended-clause-err
returns-in-Some-ended-clause-err g c =
    ends_by_exit (g.F.Folders.known c.args.folders.now) c.args.session.now c.loop-body.session c.args.frames.now
    c.loop-body.frames (g.S.Sink.bytes c.args.sink.now) (g.S.Sink.bytes c.loop-body.sink) c.loop-body.invariant.passes
    c.answer.new.session c.in-Some.body c.next_body.new.frames (g.S.Sink.bytes c.answer.new.sink)
    (at_some c.in_ok-body.field-0 c.in-Some.body _ _ c.in-Some.is c.in_ok-body.ensures.ok)
    (answers_at (g.F.Folders.known c.loop-body.folders) (g.F.Folders.known c.args.folders.now) c.loop-body.session c.as_slice.result.now
    c.in-Some.body c.answer.new.session (g.S.Sink.bytes c.loop-body.sink) (g.S.Sink.bytes c.answer.new.sink)
    (Ok c.in_ok-answer.field-0)
    c.loop-body.invariant.known c.as_slice.ensures c.in_ok-answer.ensures.put)
    c.in-Some-ended.ending c.in-Some-ended.ensures

pub loop-body-preserved : goal.loop-body-preserved
loop-body-preserved g c = record {
  known = c.answer.ensures.known ∙ c.loop-body.invariant.known;
  passes = turn_on (g.F.Folders.known c.args.folders.now) c.args.session.now c.loop-body.session c.args.frames.now
      c.loop-body.frames (g.S.Sink.bytes c.args.sink.now) (g.S.Sink.bytes c.loop-body.sink) c.loop-body.invariant.passes
      c.answer.new.session c.in-Some.body c.next_body.new.frames (g.S.Sink.bytes c.answer.new.sink)
      (at_some c.in_ok-body.field-0 c.in-Some.body _ _ c.in-Some.is c.in_ok-body.ensures.ok)
      (answers_at (g.F.Folders.known c.loop-body.folders) (g.F.Folders.known c.args.folders.now) c.loop-body.session c.as_slice.result.now
      c.in-Some.body c.answer.new.session (g.S.Sink.bytes c.loop-body.sink) (g.S.Sink.bytes c.answer.new.sink)
      (Ok c.in_ok-answer.field-0)
      c.loop-body.invariant.known c.as_slice.ensures c.in_ok-answer.ensures.put)
      c.in_default-ended.ensures;
}
