use Rattle.std.proofs.Common.{ap}
use Rattle.lsp_core.specs.declared.phase.Phase.{Phase}
use Rattle.lsp_core.specs.Runs.{is_gone}
use Rattle.lsp_serving.proofs.Feeding.{lacks_at_once}
use Rattle.lsp_serving.proofs.serving.serve.Goals as goal

pub returns : goal.returns
returns g c = record {
  start = c.new-session.result;
  fresh = record {
    documents = c.new-session.ensures.documents;
    encoding = c.new-session.ensures.encoding;
    phase = c.new-session.ensures.phase;
    shown = c.new-session.ensures.shown;
  };
  serves = lacks_at_once (g.F.Folders.known c.args.folders.now) c.new-session.result (g.R.Read.remaining c.args.reader.now)
      (g.S.Sink.bytes c.args.sink.now) (ap (λ (p : Phase). is_gone p) c.new-session.ensures.phase);
}
