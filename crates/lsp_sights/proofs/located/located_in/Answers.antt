use Rattle.std.proofs.lemmas.Result.{IfOk-weaker}
use Rattle.lsp_sights.proofs.Locating.{one_length, within, are_located}
use Rattle.lsp_sights.proofs.located.located_in.Goals as goal

pub zipped-requires-clause-same : goal.zipped-requires-clause-same
zipped-requires-clause-same c =
    one_length c.args.text.now c.as_bytes.result.now c.args.sites.now c.in_ok-places.places.items c.as_slice.result.now
    c.in_ok-starts.starts.items c.as_slice-2.result.now c.as_bytes.ensures.value c.in_ok-places.ensures c.as_slice.ensures.value
    c.as_slice-2.ensures.value c.in_ok-starts.ensures

pub zipped-requires-clause-within : goal.zipped-requires-clause-within
zipped-requires-clause-within c =
    within c.args.text.now c.as_bytes.result.now c.args.sites.now c.in_ok-places.places.items c.as_slice.result.now
    c.in_ok-starts.starts.items c.as_slice-2.result.now c.as_bytes.ensures.value c.in_ok-places.ensures c.as_slice.ensures.value
    c.as_slice-2.ensures.value c.in_ok-starts.ensures

pub returns : goal.returns
returns c =
    IfOk-weaker c.zipped.result _ _ (λ v is.
    are_located c.args.text.now c.as_bytes.result.now c.args.sites.now c.in_ok-places.places.items c.as_slice.result.now
    c.in_ok-starts.starts.items c.as_slice-2.result.now c.as_bytes.ensures.value c.in_ok-places.ensures c.as_slice.ensures.value
    c.as_slice-2.ensures.value c.in_ok-starts.ensures v.items is) c.zipped.ensures
