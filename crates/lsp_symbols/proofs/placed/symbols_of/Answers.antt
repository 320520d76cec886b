use Rattle.std.proofs.Common.{◌≡◌, ◌+◌, ◌<◌, length, take, get_or, List, [], ◌∷◌, ◌++◌, sym, ap, ◌∙◌, arith, length-take-le}
use Rattle.std.proofs.lemmas.List.{take_more}
use Rattle.lsp_text.specs.declared.changes.Range.{Range}
use Rattle.lsp_messages.specs.declared.outgoing.Symbol.{Symbol}
use Rattle.lsp_symbols.specs.declared.things.Declared.{Declared}
use Rattle.lsp_symbols.specs.inner.Pairs.{symbols}
use Rattle.lsp_symbols.proofs.Pairing.{symbols_more}
use Rattle.lsp_symbols.proofs.placed.symbols_of.Goals as goal

pub loop-number-preserved : goal.loop-number-preserved
loop-number-preserved c =
    let i = c.loop-number.number in
    let none : Range = record { start = record { line = 0; character = 0 }; «end» = record { line = 0; character = 0 } } in
    let name = c.args.document.now in
    let ds = c.args.things.now in
    let rs = c.args.ranges.now in
    let d = c.index-things-number.result in
    let fits : i < length ds = omega arith in
    let also : i < length rs = omega (arith, c.requires) in
    let same : length (take i ds) ≡ length (take i rs) =
    length-take-le i ds (omega arith) ∙ sym (length-take-le i rs (omega arith)) in
    c.in_ok-push.ensures.items
    ∙ ap (λ (ss : List Symbol). ss ++ c.in_ok-symbol.symbol ∷ []) c.loop-number.invariant
    ∙ ap (λ (s : Symbol). symbols name (take i ds) (take i rs) ++ s ∷ []) c.in_ok-symbol.ensures
    ∙ sym (symbols_more name (take i ds) (take i rs) d (get_or rs i none) same)
    ∙ ap (λ (x : Declared). symbols name (take i ds ++ x ∷ []) (take i rs ++ get_or rs i none ∷ [])) c.index-things-number.is
    ∙ sym (ap (λ (xs : List Declared). symbols name xs (take (i + 1) rs)) (take_more ds i d fits)
    ∙ ap (λ (ys : List Range). symbols name (take i ds ++ get_or ds i d ∷ []) ys) (take_more rs i none also))
