use Rattle.std.proofs.Common.{ℕ, List, sym, subst}
use Rattle.std.specs.Prelude.{All}
use Rattle.std.proofs.lemmas.Result.{IfOk-weaker}
use Rattle.lsp_spans.proofs.Zipped.{IsWithin, offsets_within, one_length, all_joined}
use Rattle.lsp_spans.proofs.ranges.ranges_of.Goals as goal

pub ends_of-requires : goal.ends_of-requires
ends_of-requires c =
    let text = c.args.text.now in
    subst (λ (bs : List ℕ). All (λ (o : ℕ). IsWithin bs o) c.as_slice.result.now) (sym c.as_bytes.ensures.value)
    (subst (λ (os : List ℕ). All (IsWithin text) os) (sym c.as_slice.ensures.value)
    (offsets_within text c.args.places.now c.in_ok-starts.starts.items c.in_ok-starts.ensures))

pub between-requires : goal.between-requires
between-requires c =
    one_length c.args.text.now c.as_bytes.result.now c.args.encoding c.in_ok-starts.starts.items c.as_slice.result.now c.as_slice-2.result.now
    c.in_ok-ends.ends.items c.as_slice-3.result.now c.in_ok-begins.begins.items c.as_slice-4.result.now c.in_ok-behind.behind.items
    c.as_slice-5.result.now c.as_bytes.ensures.value c.as_slice.ensures.value c.as_slice-2.ensures.value c.as_slice-3.ensures.value
    c.as_slice-4.ensures.value c.as_slice-5.ensures.value c.in_ok-ends.ensures c.in_ok-begins.ensures c.in_ok-behind.ensures

pub returns : goal.returns
returns c =
    IfOk-weaker c.between.result _ _ (λ v is.
    all_joined c.args.text.now c.as_bytes.result.now c.args.encoding c.in_ok-starts.starts.items c.as_slice.result.now c.as_slice-2.result.now
    c.in_ok-ends.ends.items c.as_slice-3.result.now c.in_ok-begins.begins.items c.as_slice-4.result.now c.in_ok-behind.behind.items
    c.as_slice-5.result.now c.as_bytes.ensures.value c.as_slice.ensures.value c.as_slice-2.ensures.value c.as_slice-3.ensures.value
    c.as_slice-4.ensures.value c.as_slice-5.ensures.value c.in_ok-ends.ensures c.in_ok-begins.ensures c.in_ok-behind.ensures
    c.args.places.now v.items c.in_ok-starts.ensures is) c.between.ensures
