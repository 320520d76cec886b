use Rattle.std.proofs.lemmas.Result.{IfOk-weaker}
use Rattle.lsp_symbols.proofs.Pairing.{same_count, all_paired}
use Rattle.lsp_symbols.proofs.placed.located.Goals as goal

pub symbols_of-requires : goal.symbols_of-requires
symbols_of-requires c =
    same_count c.args.encoding c.args.document.now c.args.text.now c.args.things.now c.in_ok-places.places.items c.as_slice.result.now
    c.in_ok-ranges.ranges.items c.as_slice-2.result.now c.as_slice.ensures.value c.in_ok-places.ensures c.as_slice-2.ensures.value
    c.in_ok-ranges.ensures

pub returns : goal.returns
returns c =
    IfOk-weaker c.symbols_of.result _ _ (λ v is.
    all_paired c.args.encoding c.args.document.now c.args.text.now c.args.things.now c.in_ok-places.places.items c.as_slice.result.now
    c.in_ok-ranges.ranges.items c.as_slice-2.result.now c.as_slice.ensures.value c.in_ok-places.ensures c.as_slice-2.ensures.value
    c.in_ok-ranges.ensures v.items is) c.symbols_of.ensures
