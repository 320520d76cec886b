use Rattle.std.proofs.lemmas.Result.{IfOk-weaker}
use Rattle.lsp_symbols.proofs.Showing.{all_shown}
use Rattle.lsp_symbols.proofs.documents.symbols_of.Goals as goal

pub returns : goal.returns
returns c = IfOk-weaker c.located.result _ _ (λ v are.
    all_shown c.args.encoding c.args.document.now c.args.text.now c.as_bytes.result.now c.in_ok-things.things.items c.as_slice.result.now
    v.items c.as_bytes.ensures.value c.as_slice.ensures.value c.in_ok-things.ensures are) c.located.ensures
