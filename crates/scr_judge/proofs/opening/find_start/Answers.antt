use Rattle.std.proofs.Common.{◌∷◌, [], Some, sym, ap, subst, ◌∙◌}
use Rattle.mg_read.specs.Culprit.{culprit}
use Rattle.mg_read.specs.First.{Judged}
use Rattle.scr_tree.specs.Going.{StartsWithDo}
use Rattle.scr_tree.specs.View.{statements}
use Rattle.scr_tree.specs.Written.{part_written}
use Rattle.scr_judge.specs.inner.View.{first_seen}
use Rattle.scr_judge.proofs.Starting.{place_in, no_deed, do_first, acts_first}
use Rattle.scr_judge.proofs.opening.find_start.Goals as goal

pub returns-then-not-has_deed : goal.returns-then-not-has_deed
returns-then-not-has_deed c =
    subst (λ n. Judged StartsWithDo (part_written c.args.part.now ∷ []) (Some (culprit c.args.part.now.place n)))
    (sym c.as_str-name.ensures)
    (no_deed c.args.part.now (statements c.as_slice-body.result.now) (ap statements c.as_slice-body.ensures.items)
    (sym c.if-not-has_deed.ensures))

pub returns-in-Neither : goal.returns-in-Neither
returns-in-Neither c =
    acts_first c.args.part.now (statements c.as_slice-body.result.now) (ap statements c.as_slice-body.ensures.items)
    (sym c.if-not-has_deed.ensures)
    (ap place_in (sym c.first_of.ensures ∙ ap first_seen c.in-Neither.is))

pub returns-in-Deed : goal.returns-in-Deed
returns-in-Deed c =
    acts_first c.args.part.now (statements c.as_slice-body.result.now) (ap statements c.as_slice-body.ensures.items)
    (sym c.if-not-has_deed.ensures)
    (ap place_in (sym c.first_of.ensures ∙ ap first_seen c.in-Deed.is))

pub returns-in-Goes : goal.returns-in-Goes
returns-in-Goes c =
    subst (λ n. Judged StartsWithDo (part_written c.args.part.now ∷ []) (Some (culprit c.in-Goes.place n))) (sym c.as_str-name.ensures)
    (do_first c.args.part.now (statements c.as_slice-body.result.now) (ap statements c.as_slice-body.ensures.items)
    (sym c.if-not-has_deed.ensures)
    c.in-Goes.place (sym c.first_of.ensures ∙ ap first_seen c.in-Goes.is))
