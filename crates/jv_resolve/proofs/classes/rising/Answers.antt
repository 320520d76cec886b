use Rattle.std.proofs.Common.{◌∷◌, [], ◌++◌, ap, sym, ◌∙◌, add-one}
use Rattle.jv_core.specs.Numbering.{numbers_from}
use Rattle.jv_resolve.proofs.MemberSteps.{numbers_push}
use Rattle.jv_resolve.proofs.classes.rising.Goals as goal

pub loop-offset-preserved : goal.loop-offset-preserved
loop-offset-preserved c =
    c.in_ok-push.ensures.ok ∙ ap (λ xs. xs ++ c.in_ok-number.number ∷ []) c.loop-offset.invariant
    ∙ ap (λ k. numbers_from c.args.first c.loop-offset.offset ++ k ∷ []) c.in_ok-number.ensures
    ∙ sym (numbers_push c.args.first c.loop-offset.offset) ∙ ap (numbers_from c.args.first) (sym (add-one c.loop-offset.offset))
