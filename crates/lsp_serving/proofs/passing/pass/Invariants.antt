use Rattle.std.proofs.Common.{◌≡◌, length}
use Rattle.lsp_serving.specs.inner.Passing.{Passes}
use Rattle.lsp_serving.proofs.passing.pass.Given as goal

abbrev pub invariant-loop-body : goal.invariant-loop-body
invariant-loop-body g l = record {
  known : g.F.Folders.known l.folders ≡ g.F.Folders.known l.initial.folders;
  passes : Passes (g.F.Folders.known l.initial.folders) l.initial.session l.initial.frames (g.S.Sink.bytes l.initial.sink)
      l.session l.frames (g.S.Sink.bytes l.sink);
}

abbrev pub decreases-loop-body : goal.decreases-loop-body
decreases-loop-body g l = length l.frames
