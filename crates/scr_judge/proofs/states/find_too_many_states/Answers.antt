use Rattle.std.proofs.Common.{true, false, [], ◌∷◌, Some, refl, subst, sym, true≢false, arith}
use Rattle.mg_read.specs.First.{Judged}
use Rattle.mg_read.specs.Culprit.{culprit}
use Rattle.scr_tree.specs.States.{TooManyStates, all_states}
use Rattle.scr_tree.specs.Written.{parts_in, me_in, body_of, written_of}
use Rattle.scr_judge.proofs.Counting.{judged_file, too_many}
use Rattle.scr_judge.proofs.states.find_too_many_states.Goals as goal

pub returns-then-count-gt-MAX_STATES : goal.returns-then-count-gt-MAX_STATES
returns-then-count-gt-MAX_STATES c =
    let counted = too_many c.args.written.now c.count_file-count.result c.count_file-count.ensures in
    subst (λ p. Judged (TooManyStates c.args.file) (all_states me_in body_of (parts_in (written_of c.args.file c.args.written.now)) ∷ [])
    (Some (culprit p []))) (sym c.start.ensures)
    (judged_file c.args.file (all_states me_in body_of (parts_in (written_of c.args.file c.args.written.now))) true
    (λ t. counted.0 c.if-count-gt-MAX_STATES.true, λ l. refl))

pub returns : goal.returns
returns c =
    let counted = too_many c.args.written.now c.count_file-count.result c.count_file-count.ensures in
    judged_file c.args.file (all_states me_in body_of (parts_in (written_of c.args.file c.args.written.now))) false
    (λ t. absurd (true≢false (sym t)), λ l. let many = counted.1 l in absurd (omega (arith, many, c.if-count-gt-MAX_STATES.false)))
