use Rattle.lsp_serving.proofs.Turns.{judged}
use Rattle.lsp_serving.proofs.turning.judged.Goals as goal

pub returns-clause-told : goal.returns-clause-told
returns-clause-told g c =
    judged (g.F.Folders.known c.args.folders.now) c.args.session.now c.judge.new.self c.args.document.now c.as_str.result.now
    c.as_str-2.result.now
    c.in_ok-files.files.items c.as_slice.result.now c.judge.result c.as_str.ensures c.as_str-2.ensures c.as_slice.ensures.value
    c.in_ok-files.ensures.files c.judge.ensures.told c.judge.ensures.behind
