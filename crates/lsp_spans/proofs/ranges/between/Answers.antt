use Rattle.std.proofs.Common.{◌≡◌, ◌+◌, ◌<◌, length, take, get_or, List, [], ◌∷◌, ◌++◌, sym, ap, ◌∙◌, arith}
use Rattle.std.proofs.lemmas.List.{take_more}
use Rattle.std.proofs.Common.{length-take-le}
use Rattle.lsp_text.specs.declared.positions.Position.{Position}
use Rattle.lsp_text.specs.declared.changes.Range.{Range}
use Rattle.lsp_spans.specs.inner.Pairs.{between, ranges}
use Rattle.lsp_spans.proofs.Zipped.{ranges_more}
use Rattle.lsp_spans.proofs.ranges.between.Goals as goal

pub loop-place-preserved : goal.loop-place-preserved
loop-place-preserved c =
    let i = c.loop-place.place in
    let none : Position = record { line = 0; character = 0 } in
    let ss = c.args.starts.now in
    let es = c.args.ends.now in
    let fits : i < length ss = omega arith in
    let also : i < length es = omega (arith, c.requires) in
    let same : length (take i ss) ≡ length (take i es) =
    length-take-le i ss (omega arith) ∙ sym (length-take-le i es (omega arith)) in
    c.in_ok-push.ensures.items ∙ ap (λ (rs : List Range). rs ++ between (get_or ss i none) (get_or es i none) ∷ []) c.loop-place.invariant
    ∙ sym (ranges_more (take i ss) (take i es) (get_or ss i none) (get_or es i none) same)
    ∙ sym (ap (λ (xs : List Position). ranges xs (take (i + 1) es)) (take_more ss i none fits)
    ∙ ap (λ (ys : List Position). ranges (take i ss ++ get_or ss i none ∷ []) ys) (take_more es i none also))
