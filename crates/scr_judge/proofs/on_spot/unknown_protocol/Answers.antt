use Rattle.std.proofs.Common.{sym, ap, ◌∙◌}
use Rattle.std.specs.HashSet.{contains_text}
use Rattle.mg_read.specs.Culprit.{culprit}
use Rattle.scr_tree.specs.Tree.{Nothing}
use Rattle.scr_tree.specs.View.{front}
use Rattle.scr_judge.specs.inner.OnSpot.{unless, unknown_protocol}
use Rattle.scr_judge.proofs.SpotSteps.{protocol-Do}
use Rattle.scr_judge.proofs.on_spot.unknown_protocol.Goals as goal

pub returns-in-Do : goal.returns-in-Do
returns-in-Do c =
    let listed = c.contains.ensures ∙ ap (contains_text c.args.names.now) c.as_str-name.ensures in
    c.culprit_unless.ensures
    ∙ (λ i. unless (listed i) (culprit c.in-Do.place (c.as_str-name.ensures i)))
    ∙ sym (ap (λ s. unknown_protocol (contains_text c.args.names.now) (front s Nothing)) c.in-Do.is ∙
    protocol-Do (contains_text c.args.names.now) c.in-Do.place c.in-Do.name)
