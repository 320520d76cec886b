use Rattle.std.proofs.lemmas.Result.{IfOk-weaker}
use Rattle.lsp_defined.proofs.Locating.{are_located}
use Rattle.lsp_defined.proofs.locations.located.Goals as goal

pub returns : goal.returns
returns c =
    IfOk-weaker c.with_name.result _ _ (λ v is.
    are_located c.args.encoding c.args.document.now c.args.text.now c.args.places.now c.in_ok-ranges.ranges.items c.as_slice.result.now
    v.items c.as_slice.ensures.value c.in_ok-ranges.ensures is) c.with_name.ensures
