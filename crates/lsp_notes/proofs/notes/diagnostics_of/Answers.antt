use Rattle.std.proofs.Common.{◌<◌, [], ◌∷◌, ◌++◌, length, get_or, ap, ◌∙◌, arith}
use Rattle.std.proofs.lemmas.List.{get_or_default}
use Rattle.lsp_text.specs.declared.positions.Position.{Position}
use Rattle.lsp_text.specs.declared.changes.Range.{Range}
use Rattle.lsp_messages.specs.declared.outgoing.Diagnostic.{Diagnostic}
use Rattle.lsp_notes.proofs.Pairing.{next_pair}
use Rattle.lsp_notes.proofs.notes.diagnostics_of.Goals as goal

pub loop-number-preserved : goal.loop-number-preserved
loop-number-preserved c =
    let i = c.loop-number.number in
    let here : Position = record { line = 0; character = 0 } in
    let none : Range = record { start = here; «end» = here } in
    let rs = c.args.refusals.now in
    let ranges = c.args.ranges.now in
    let fits : i < length rs = omega arith in
    let also : i < length ranges = omega (arith, c.requires) in
    next_pair rs ranges i c.index-refusals-number.result (get_or ranges i none) c.loop-number.list.items c.push.new.self.items c.requires fits
    c.index-refusals-number.is (get_or_default ranges i none (get_or ranges i none) also) c.loop-number.invariant
    (c.in_ok-push.ensures.items ∙ ap (λ (d : Diagnostic). c.loop-number.list.items ++ d ∷ []) c.in_ok-diagnostic.ensures)
