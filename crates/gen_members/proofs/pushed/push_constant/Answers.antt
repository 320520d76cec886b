use Rattle.std.proofs.Common.{rules, sym, ap, ◌∙◌}
use Rattle.std.proofs.lemmas.Int.{to_z-of_z}
use mir.Syntax.{w32}
use mir.Val.{SFits}
use Rattle.jv_core.proofs.ViewLaws.{expr_of-is, kind-Int}
use Rattle.jv_core.specs.View.{kind_of}
use Rattle.gen_rules.specs.Symbolic.{push}
use Rattle.gen_rules.specs.Classes.{push_constant}
use Rattle.gen_members.proofs.pushed.push_constant.Goals as goal

pub returns-in-Int : goal.returns-in-Int
returns-in-Int c = λ p.
    let e = c.args.value.now in
    let fits : SFits w32 c.in-Int.number = search rules in
    c.push.ensures p ∙ ap push (to_z-of_z w32 c.in-Int.number fits)
    ∙ ap push_constant (sym (expr_of-is e ∙ ap (λ k. kind_of k e.place) c.in-Int.is ∙ kind-Int c.in-Int.number e.place))
