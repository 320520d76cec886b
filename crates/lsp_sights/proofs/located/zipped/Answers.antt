use Rattle.std.proofs.Common.{◌≡◌, ◌+◌, ◌<◌, length, take, get_or, ℕ, List, [], ◌∷◌, ◌++◌, sym, ap, ◌∙◌, arith}
use Rattle.std.proofs.lemmas.List.{take_more, take_all}
use Rattle.std.proofs.Common.{◌-◌, ◌≤◌, drop, length-drop, length-take-le}
use Rattle.lsp_spans.specs.Words.{path_len}
use Rattle.jv_core.specs.declared.tree.Var.TheVariants as vars
use Rattle.use_sights.specs.declared.site.Site.{Site}
use Rattle.lsp_sights.specs.declared.located.Located.{Located}
use Rattle.lsp_sights.specs.inner.Zipped.{zipped}
use Rattle.lsp_sights.proofs.Locating.{zipped_more}
use Rattle.lsp_sights.proofs.located.zipped.Goals as goal

abbrev none_there : Site
none_there = record {
  place = record { file = 0; line = 0; column = 0 };
  within = 0;
  variable = vars.Slot 0;
  method = 0;
}

pub loop-number-preserved : goal.loop-number-preserved
loop-number-preserved c =
    let i = c.loop-number.number in
    let text : List ℕ = c.args.text.now in
    let ss = c.args.sites.now in
    let os = c.args.starts.now in
    let s = get_or ss i none_there in
    let o = get_or os i 0 in
    let same = c.requires.same in
    let fits : i < length ss = omega arith in
    let also : i < length os = omega (arith, same) in
    let even : length (take i ss) ≡ length (take i os) =
    length-take-le i ss (omega arith) ∙ sym (length-take-le i os (omega arith)) in
    let long : length (drop o text) ≤ length text - o = omega (arith, length-drop o text) in
    let rest : take (length text - o) (drop o text) ≡ drop o text = take_all (length text - o) (drop o text) long in
    c.in_ok-push.ensures.items
    ∙ ap (λ (cs : List Located). cs ++ record { site = s; start = o; «end» = o + c.path_len-len.result } ∷ []) c.loop-number.invariant
    ∙ ap (λ (n : ℕ). zipped text (take i ss) (take i os) ++ record { site = s; start = o; «end» = o + n } ∷ [])
    (c.path_len-len.ensures.value ∙ ap path_len rest)
    ∙ sym (zipped_more text (take i ss) (take i os) s o even)
    ∙ sym (ap (λ (xs : List Site). zipped text xs (take (i + 1) os)) (take_more ss i none_there fits)
    ∙ ap (λ (ys : List ℕ). zipped text (take i ss ++ s ∷ []) ys) (take_more os i 0 also))
