use Rattle.std.proofs.Common.{false, sym, ap, ◌∙◌}
use Rattle.scr_tree.specs.View.{statements}
use Rattle.scr_judge.specs.inner.Gone.{not_last, not_last_in_part}
use Rattle.scr_judge.specs.inner.Listed.{first_among}
use Rattle.scr_judge.specs.inner.View.{culprit_of}
use Rattle.scr_judge.proofs.Files.{or_here, or_behind, file_last}
use Rattle.scr_judge.proofs.last.find_not_last_in.Goals as goal

pub returns-in-Some : goal.returns-in-Some
returns-in-Some c =
    file_last c.args.written.now _
    (or_here _ _ _ (ap (λ b. not_last false (statements b)) (sym c.as_slice.ensures.items) ∙ sym c.last_all.ensures ∙
    ap culprit_of c.in-Some.is))

pub returns-in-None : goal.returns-in-None
returns-in-None c =
    file_last c.args.written.now _
    (or_behind _ _ _ (ap (λ b. not_last false (statements b)) (sym c.as_slice.ensures.items) ∙ sym c.last_all.ensures ∙
    ap culprit_of c.in-None.is)
    (c.find_not_last_among.ensures ∙ ap (first_among not_last_in_part) c.as_slice-in-None.ensures.items))
