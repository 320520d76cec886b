use Rattle.std.proofs.Common.{◌≡◌, ◌+◌, drop, ap, ◌∙◌, arith, rules}
use Rattle.std.proofs.lemmas.Int.{to_z-of_z}
use Rattle.std.specs.Int.RustNames.{FitsSigned}
use mir.Syntax.{w32}
use Rattle.cls_tree.specs.Layout.{pad}
use Rattle.cls_code.specs.Code.{s4_at, cases_of}
use Rattle.cls_code.specs.Inner.{words}
use Rattle.cls_code.proofs.Layouts.{same_table}
use Rattle.cls_code.proofs.reading.table_of.Goals as goal

pub returns : goal.returns
returns c =
    let f : FitsSigned w32 c.s4_of.result = search rules in
    let g : FitsSigned w32 c.s4_of-2.result = search rules in
    let p = c.pad_at-pad.ensures.value in
    same_table _ (s4_at (pad c.args.place) c.args.rest.now) _ (s4_at (pad c.args.place + 4) c.args.rest.now) _
    (words (cases_of c.args.place c.args.rest.now) (drop (pad c.args.place + 12) c.args.rest.now))
    (to_z-of_z w32 c.s4_of.result f ∙ c.s4_of.ensures ∙ ap (λ n. s4_at n c.args.rest.now) p)
    (to_z-of_z w32 c.s4_of-2.result g ∙ c.s4_of-2.ensures ∙ ap (λ n. s4_at (n + 4) c.args.rest.now) p)
    (c.in_ok-offsets.ensures ∙ ap (words c.cases_at.result) c.tail.ensures ∙
    ap (λ n. words n (drop (c.pad_at-pad.result + 12) c.args.rest.now)) c.cases_at.ensures.value
    ∙ ap (λ n. words (cases_of c.args.place c.args.rest.now) (drop (n + 12) c.args.rest.now)) p)
