use Rattle.lsp_server.proofs.Fits.{fits}
use Rattle.lsp_server.proofs.Told.{told_of}
use Rattle.lsp_server.proofs.session.Session.judge.Goals as goal

pub told-requires : goal.told-requires
told-requires c = fits c.documents.result.now c.args.document.now c.args.files.now c.in_ok-program.program c.in_ok-program.ensures

pub returns-clause-told : goal.returns-clause-told
returns-clause-told c =
    told_of c.args.self.now.server c.documents.result.now c.encoding.result c.as_slice.result.now c.args.self.now.shown.items
    c.args.document.now c.args.files.now c.in_ok-program.program c.in_ok-told.told.items c.documents.ensures c.encoding.ensures
    c.as_slice.ensures.value c.in_ok-program.ensures c.in_ok-told.ensures
