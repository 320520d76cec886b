use Rattle.std.proofs.Common.{sym, ap, ◌∙◌}
use Rattle.scr_judge.specs.inner.Listed.{first_among, many, many_by}
use Rattle.scr_judge.specs.inner.View.{culprit_of}
use Rattle.scr_judge.proofs.Files.{or_here, or_behind, file_many}
use Rattle.scr_judge.proofs.typed.find_payload_in_file.Goals as goal

pub returns-in-Some : goal.returns-in-Some
returns-in-Some c =
    file_many c.args.written.now _
    (or_here _ _ _ (ap (first_among many) (sym c.as_slice.ensures.items) ∙ sym c.find_many.ensures ∙ ap culprit_of c.in-Some.is))

pub returns-in-None : goal.returns-in-None
returns-in-None c =
    file_many c.args.written.now _
    (or_behind _ _ _ (ap (first_among many) (sym c.as_slice.ensures.items) ∙ sym c.find_many.ensures ∙ ap culprit_of c.in-None.is)
    (c.find_many_among.ensures ∙ ap (first_among many_by) c.as_slice-in-None.ensures.items))
