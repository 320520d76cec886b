use Rattle.std.proofs.Common.{ℕ, List, subst}
use Rattle.std.proofs.lemmas.Result.{IfOk-weaker}
use Rattle.lsp_notes.specs.Told.{AreDiagnostics}
use Rattle.lsp_notes.proofs.Pairing.{as_many, all_paired}
use Rattle.lsp_notes.proofs.notes.notes_of.Goals as goal

pub diagnostics_of-requires : goal.diagnostics_of-requires
diagnostics_of-requires c =
    as_many c.args.encoding c.text_of.result.now c.args.count c.args.refusals.now c.in_ok-places.places.items c.as_slice.result.now
    c.in_ok-ranges.ranges.items c.as_slice-2.result.now c.in_ok-places.ensures c.as_slice.ensures.value c.as_slice-2.ensures.value
    c.in_ok-ranges.ensures

pub returns : goal.returns
returns c =
    IfOk-weaker c.diagnostics_of.result _ _ (λ v is.
    subst (λ (t : List ℕ). AreDiagnostics c.args.encoding c.args.count t c.args.refusals.now v.items) c.text_of.ensures
    (all_paired c.args.encoding c.text_of.result.now c.args.count c.args.refusals.now c.in_ok-places.places.items c.as_slice.result.now
    c.in_ok-ranges.ranges.items c.as_slice-2.result.now v.items c.in_ok-places.ensures c.as_slice.ensures.value c.as_slice-2.ensures.value
    c.in_ok-ranges.ensures is)) c.diagnostics_of.ensures
