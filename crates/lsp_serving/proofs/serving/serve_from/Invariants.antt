use Rattle.std.proofs.Common.{◌≡◌, ◌<◌, length}
use Rattle.lsp_serving.specs.inner.Passing.{SoFar}
use Rattle.lsp_serving.proofs.serving.serve_from.Given as goal

abbrev pub invariant-loop : goal.invariant-loop
invariant-loop g l = record {
  known : g.F.Folders.known l.folders ≡ g.F.Folders.known l.initial.folders;
  so_far : SoFar (g.F.Folders.known l.initial.folders) l.initial.session (g.R.Read.remaining l.initial.reader) (g.R.Read.remaining l.reader)
      (g.S.Sink.bytes l.initial.sink) l.session l.frames (g.S.Sink.bytes l.sink);
  room : 0 < length l.buffer;
}
