use Rattle.std.proofs.Common.{List, map, sym, ap, ◌∙◌}
use Rattle.std.proofs.lemmas.Result.{IfOk-weaker}
use Rattle.std.proofs.Math.ListN.{length-map}
use Rattle.indexmap.specs.IndexMap.{get}
use Rattle.mg_shown.proofs.Seeing.{key_eq}
use Rattle.lsp_spans.proofs.Zipped.{as_many}
use Rattle.lsp_text.specs.declared.positions.Position.{Position}
use Rattle.std.specs.Prelude.{length}
use Rattle.lsp_sights.proofs.Said.{end_of, hints_are}
use Rattle.lsp_sights.proofs.behind.hints_of.Goals as goal

pub hints-requires : goal.hints-requires
hints-requires c = record {
  made = c.in_ok-met.ensures.made;
  same = sym (length-map c.args.calls.now end_of)
      ∙ as_many c.args.text.now c.args.encoding (map end_of c.args.calls.now) c.in_ok-positions.positions.items c.in_ok-positions.ensures
      ∙ ap (λ (qs : List Position). length qs) (sym c.as_slice-2.ensures.value);
}

pub returns : goal.returns
returns c =
    IfOk-weaker c.hints.result _ _ (λ v is.
    hints_are c.args.encoding c.args.text.now c.args.core.now c.in_ok-met.met c.in_ok-met.ensures c.as_slice.result.now
    c.as_slice.ensures.items (get key_eq c.in_ok-seen.seen) c.in_ok-seen.ensures c.args.calls.now
    c.in_ok-positions.positions.items c.as_slice-2.result.now v.items
    c.in_ok-positions.ensures c.as_slice-2.ensures.value is) c.hints.ensures
