use Rattle.std.proofs.Common.{sym, ap, ◌∙◌}
use Rattle.scr_judge.specs.inner.Gone.{roles_differ}
use Rattle.scr_judge.specs.inner.Listed.{first_among}
use Rattle.scr_judge.specs.inner.View.{culprit_of}
use Rattle.scr_judge.proofs.Files.{or_here, or_behind, file_roles}
use Rattle.scr_judge.proofs.roles_told.find_roles_differ.Goals as goal

pub returns-in-Some : goal.returns-in-Some
returns-in-Some c = file_roles c.args.written.now _ (or_here _ _ _ (sym c.find_told.ensures ∙ ap culprit_of c.in-Some.is))

pub returns-in-None : goal.returns-in-None
returns-in-None c =
    file_roles c.args.written.now _
    (or_behind _ _ _ (sym c.find_told.ensures ∙ ap culprit_of c.in-None.is)
    (c.find_told_in.ensures ∙ ap (first_among (roles_differ c.args.written.now.first)) c.as_slice.ensures.items))
