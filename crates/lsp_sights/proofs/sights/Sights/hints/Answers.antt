use Rattle.std.proofs.Common.{◌≡◌, ◌+◌, ◌<◌, length, take, get_or, List, [], ◌∷◌, ◌++◌, sym, ap, ◌∙◌, arith}
use Rattle.std.proofs.lemmas.List.{take_more}
use Rattle.std.proofs.Common.{length-take-le}
use Rattle.indexmap.specs.IndexMap.{get}
use Rattle.mg_text.specs.Call.{Name}
use Rattle.jv_core.specs.declared.tree.Var.TheVariants as vars
use Rattle.mg_shown.proofs.Seeing.{key_eq}
use Rattle.lsp_text.specs.declared.positions.Position.{Position}
use Rattle.lsp_messages.specs.declared.outgoing.Hint.{Hint}
use Rattle.lsp_sights.specs.declared.located.Located.{Located}
use Rattle.lsp_sights.specs.inner.Hinted.{hinted}
use Rattle.lsp_sights.proofs.Said.{hinted_more}
use Rattle.lsp_sights.proofs.sights.Sights.hints.Goals as goal

abbrev none_there : Located
none_there = record {
  site = record { place = record { file = 0; line = 0; column = 0 }; within = 0; variable = vars.Slot 0; method = 0 };
  start = 0;
  «end» = 0;
}

abbrev nowhere : Position
nowhere = record { line = 0; character = 0 }

pub loop-number-preserved : goal.loop-number-preserved
loop-number-preserved c =
    let i = c.loop-number.number in
    let p = c.args.self.now.core.now in
    let find = get key_eq c.args.self.now.seen.now in
    let cs = c.args.calls.now in
    let qs = c.args.positions.now in
    let x = get_or cs i none_there in
    let q = get_or qs i nowhere in
    let same = c.requires.same in
    let fits : i < length cs = omega arith in
    let also : i < length qs = omega (arith, same) in
    let even : length (take i cs) ≡ length (take i qs) =
    length-take-le i cs (omega arith) ∙ sym (length-take-le i qs (omega arith)) in
    c.in_ok-push.ensures.items
    ∙ ap (λ (hs : List Hint). hs ++ record { position = q; text = c.in_ok-text.text } ∷ []) c.loop-number.invariant
    ∙ ap (λ (n : Name). hinted p find (take i cs) (take i qs) ++ record { position = q; text = n } ∷ []) c.in_ok-text.ensures
    ∙ sym (hinted_more p find (take i cs) (take i qs) x q even)
    ∙ sym (ap (λ (xs : List Located). hinted p find xs (take (i + 1) qs)) (take_more cs i none_there fits)
    ∙ ap (λ (ys : List Position). hinted p find (take i cs ++ x ∷ []) ys) (take_more qs i nowhere also))
