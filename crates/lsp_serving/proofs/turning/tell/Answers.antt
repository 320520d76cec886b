use Rattle.lsp_serving.proofs.Turns.{quiet, said}
use Rattle.lsp_serving.proofs.turning.tell.Goals as goal

pub returns-in-Quiet-clause-told : goal.returns-in-Quiet-clause-told
returns-in-Quiet-clause-told g c =
    quiet (g.F.Folders.known c.args.folders.now) c.args.session.now c.args.step c.new.result.items c.in-Quiet.is c.new.ensures.items

pub returns-in-Say-clause-told : goal.returns-in-Say-clause-told
returns-in-Say-clause-told g c =
    said (g.F.Folders.known c.args.folders.now) c.args.session.now c.args.step c.in-Say.message c.single.result c.in-Say.is c.single.ensures
