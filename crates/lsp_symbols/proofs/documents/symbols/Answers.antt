use Rattle.std.proofs.lemmas.Result.{IfOk-weaker}
use Rattle.lsp_symbols.proofs.Showing.{text_shown, none_shown}
use Rattle.lsp_symbols.proofs.documents.symbols.Goals as goal

pub returns-in-Ok : goal.returns-in-Ok
returns-in-Ok c = IfOk-weaker c.symbols_of.result _ _ (λ v h.
    text_shown c.args.encoding c.args.document.now c.args.bytes.now _ v.items c.in-Ok.ensures.cases.0 c.in-Ok.ensures.cases.1 h)
    c.symbols_of.ensures

pub returns-in-Err : goal.returns-in-Err
returns-in-Err c = none_shown c.args.encoding c.args.document.now c.args.bytes.now _ c.new.ensures.items c.in-Err.ensures.cases.0
