use Rattle.std.proofs.Common.{sym, ap, ◌∙◌}
use Rattle.mg_read.specs.Culprit.{culprit}
use Rattle.scr_tree.specs.Tree.{Nothing}
use Rattle.scr_tree.specs.View.{front}
use Rattle.scr_judge.specs.inner.OnSpot.{unless, unknown_role}
use Rattle.scr_judge.specs.inner.Seen.{noted_in}
use Rattle.scr_judge.proofs.SpotSteps.{role-Message, role-Choice}
use Rattle.scr_judge.proofs.on_spot.unknown_role.Goals as goal

pub returns-in-Message : goal.returns-in-Message
returns-in-Message c =
    let listed = c.contains.ensures ∙ ap (noted_in c.args.roles.now) c.as_str-name.ensures in
    c.culprit_unless.ensures
    ∙ (λ i. unless (listed i) (culprit c.in-Message.message.place (c.as_str-name.ensures i)))
    ∙ sym (ap (λ s. unknown_role (noted_in c.args.roles.now) (front s Nothing)) c.in-Message.is ∙
    role-Message (noted_in c.args.roles.now) c.in-Message.message)

pub returns-in-Choice : goal.returns-in-Choice
returns-in-Choice c =
    let listed = c.contains-in-Choice.ensures ∙ ap (noted_in c.args.roles.now) c.as_str-name-in-Choice.ensures in
    c.culprit_unless-in-Choice.ensures
    ∙ (λ i. unless (listed i) (culprit c.in-Choice.place (c.as_str-name-in-Choice.ensures i)))
    ∙ sym (ap (λ s. unknown_role (noted_in c.args.roles.now) (front s Nothing)) c.in-Choice.is ∙
    role-Choice (noted_in c.args.roles.now) c.in-Choice.place c.in-Choice.at c.in-Choice.branches)
