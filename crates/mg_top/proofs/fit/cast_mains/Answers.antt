use Rattle.std.proofs.Common.{ap, ◌∙◌}
use Rattle.std.proofs.lemmas.Result.{IfOk-weaker}
use Rattle.mg_words.specs.inner.Judging.{role_classes_of}
use Rattle.mg_top.specs.Commands.{cast_mains_of}
use Rattle.mg_top.proofs.fit.cast_mains.Goals as goal

pub returns : goal.returns
returns c =
    IfOk-weaker c.role_mains.result _ _
    (λ l is. is ∙ ap (λ z. cast_mains_of (role_classes_of z)) c.as_slice.ensures.items ∙ ap cast_mains_of c.in_ok-classes.ensures.items)
    c.role_mains.ensures
