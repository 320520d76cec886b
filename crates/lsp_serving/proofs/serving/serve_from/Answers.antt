use Rattle.std.proofs.Common.{rules, ◌∙◌, List, ℕ, refl, sym, subst}
use Rattle.lsp_server.specs.Turns.{Folders}
use Rattle.lsp_serving.specs.Endings.{Ends}
use Rattle.lsp_serving.specs.inner.Passing.{Passes, SoFar}
use Rattle.lsp_serving.proofs.Feeding.{begun, goes_on, ends_by_turn, ends_at_end, ends_by_feed, ends_late}
use Rattle.lsp_serving.proofs.serving.serve_from.Goals as goal

pub loop-init : goal.loop-init
loop-init g c = record {
  known = refl;
  so_far = subst (λ (bs : List ℕ). SoFar (g.F.Folders.known c.args.folders.now) c.args.session.now (g.R.Read.remaining c.args.reader.now)
      (g.R.Read.remaining c.args.reader.now) (g.S.Sink.bytes c.args.sink.now) c.args.session.now bs (g.S.Sink.bytes c.args.sink.now))
      (sym c.new-frames.ensures)
      (begun (g.F.Folders.known c.args.folders.now) c.args.session.now (g.R.Read.remaining c.args.reader.now)
      (g.S.Sink.bytes c.args.sink.now) c.requires.goes);
  room = c.requires.room;
}

pub returns-in-Ok-false : goal.returns-in-Ok-false
returns-in-Ok-false g c =
    ends_at_end (g.F.Folders.known c.args.folders.now) c.args.session.now (g.R.Read.remaining c.args.reader.now)
    (g.S.Sink.bytes c.args.sink.now) (g.R.Read.remaining c.loop.reader) c.loop.session c.loop.frames (g.S.Sink.bytes c.loop.sink)
    c.loop.invariant.so_far (g.R.Read.remaining c.feed.new.reader) c.feed.new.frames c.in-Ok-false.field-0
    (search rules) c.in-Ok-false.ensures

pub returns-in-Err : goal.returns-in-Err
returns-in-Err g c =
    ends_by_feed (g.F.Folders.known c.args.folders.now) c.args.session.now (g.R.Read.remaining c.args.reader.now)
    (g.S.Sink.bytes c.args.sink.now) (g.R.Read.remaining c.loop.reader) c.loop.session c.loop.frames (g.S.Sink.bytes c.loop.sink)
    c.loop.invariant.so_far (g.R.Read.remaining c.feed.new.reader) c.feed.new.frames c.in-Err.ending c.in-Err.ensures

pub returns-in-Err-pass : goal.returns-in-Err-pass
returns-in-Err-pass g c =
    ends_by_turn (g.F.Folders.known c.args.folders.now) c.args.session.now (g.R.Read.remaining c.args.reader.now)
    (g.S.Sink.bytes c.args.sink.now) (g.R.Read.remaining c.loop.reader) c.loop.session c.loop.frames (g.S.Sink.bytes c.loop.sink)
    c.loop.invariant.so_far (g.R.Read.remaining c.feed.new.reader) c.feed.new.frames c.in-Ok-true.field-0
    (search rules) c.in-Ok-true.ensures
    (g.S.Sink.bytes c.pass.new.sink) c.in-Err-pass.ending
    (subst (λ (fs : Folders). Ends fs c.loop.session c.feed.new.frames (g.S.Sink.bytes c.loop.sink) (g.S.Sink.bytes c.pass.new.sink)
    c.in-Err-pass.ending) c.loop.invariant.known c.in-Err-pass.ensures.err.0)
    c.in-Err-pass.ensures.err.1

pub loop-preserved : goal.loop-preserved
loop-preserved g c = record {
  known = c.pass.ensures.known ∙ c.loop.invariant.known;
  so_far = goes_on (g.F.Folders.known c.args.folders.now) c.args.session.now (g.R.Read.remaining c.args.reader.now)
      (g.S.Sink.bytes c.args.sink.now) (g.R.Read.remaining c.loop.reader) c.loop.session c.loop.frames (g.S.Sink.bytes c.loop.sink)
      c.loop.invariant.so_far (g.R.Read.remaining c.feed.new.reader) c.feed.new.frames c.in-Ok-true.field-0
      (search rules) c.in-Ok-true.ensures
      c.pass.new.session c.pass.new.frames (g.S.Sink.bytes c.pass.new.sink)
      (subst (λ (fs : Folders). Passes fs c.loop.session c.feed.new.frames (g.S.Sink.bytes c.loop.sink) c.pass.new.session c.pass.new.frames
      (g.S.Sink.bytes c.pass.new.sink)) c.loop.invariant.known c.in_default.ensures.ok)
      c.in_default.ensures.part;
  room = search rules;
}

pub returns : goal.returns
returns g c =
    ends_late (g.F.Folders.known c.args.folders.now) c.args.session.now (g.R.Read.remaining c.args.reader.now)
    (g.S.Sink.bytes c.args.sink.now) (g.R.Read.remaining c.loop.reader) c.loop.session c.loop.frames (g.S.Sink.bytes c.loop.sink)
    c.loop.invariant.so_far
