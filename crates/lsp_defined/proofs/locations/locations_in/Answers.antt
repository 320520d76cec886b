use Rattle.std.proofs.lemmas.Result.{IfOk-weaker}
use Rattle.lsp_defined.proofs.Locating.{text_located, none_located}
use Rattle.lsp_defined.proofs.locations.locations_in.Goals as goal

pub returns-in-Ok : goal.returns-in-Ok
returns-in-Ok c = IfOk-weaker c.located.result _ _ (λ v h.
    text_located c.args.encoding c.args.document.now c.args.bytes.now _ c.args.places.now v.items c.in-Ok.ensures.cases.0
    c.in-Ok.ensures.cases.1 h) c.located.ensures

pub returns-in-Err : goal.returns-in-Err
returns-in-Err c = none_located c.args.encoding c.args.document.now c.args.bytes.now c.args.places.now _ c.new.ensures.items
    c.in-Err.ensures.cases.0
