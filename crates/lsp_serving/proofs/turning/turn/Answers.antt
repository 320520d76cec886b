use Rattle.lsp_serving.proofs.Turns.{turned}
use Rattle.lsp_serving.proofs.turning.turn.Goals as goal

pub returns-clause-told : goal.returns-clause-told
returns-clause-told g c =
    turned (g.F.Folders.known c.args.folders.now) c.args.session.now c.step.new.self c.tell.new.session c.args.body.now
    c.in_ok-message.message
    c.in_ok-step.step c.tell.result c.in_ok-message.ensures c.in_ok-step.ensures c.tell.ensures.told
