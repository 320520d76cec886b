use Rattle.std.proofs.Common.{◌≡◌, false, sym, ◌∙◌, rules}
use Rattle.std.proofs.lemmas.Grind.{common_steps}
use Rattle.scr_same.proofs.Sameness.{one_same, same_differs}
use Rattle.scr_same.proofs.Sameness.{Message-Message, Message-Choice, Message-Rec, Message-Continue, Message-Do}
use Rattle.scr_same.proofs.Sameness.{Choice-Message, Choice-Choice, Choice-Rec, Choice-Continue, Choice-Do}
use Rattle.scr_same.proofs.Sameness.{Rec-Message, Rec-Choice, Rec-Rec, Rec-Continue, Rec-Do}
use Rattle.scr_same.proofs.Sameness.{Continue-Message, Continue-Choice, Continue-Rec, Continue-Continue, Continue-Do}
use Rattle.scr_same.proofs.Sameness.{Do-Message, Do-Choice, Do-Rec, Do-Continue, Do-Do}
use Rattle.scr_same.proofs.same.+same.Goals as goal

pub same_all-returns-then-not-same_at : goal.same_all-returns-then-not-same_at
same_all-returns-then-not-same_at t c =
    let differs : false ≡ one_same c.statement-item.result c.in-Some.other.now =
    sym c.if-not-same_at.true ∙ c.same_at.ensures in
    sym (c.loop-statement.invariant
    ∙ same_differs c.args.some.now c.loop-statement.statement-index c.statement-item.result c.loop-statement-test.true
    c.statement-item.is
    c.in-Some.other.now c.loop-statement.rest.now c.in-Some.after.now c.in-Some.ensures.cases.0 differs)

-- each pair of kinds by its lemma
pub same_at-returns-in-Message-other : goal.same_at-returns-in-Message-other
same_at-returns-in-Message-other t c = search (rules, common_steps, Message-Message)

pub same_at-returns-in-Choice-other : goal.same_at-returns-in-Choice-other
same_at-returns-in-Choice-other t c = search (rules, common_steps, Message-Choice)

pub same_at-returns-in-Rec-other : goal.same_at-returns-in-Rec-other
same_at-returns-in-Rec-other t c = search (rules, common_steps, Message-Rec)

pub same_at-returns-in-Continue-other : goal.same_at-returns-in-Continue-other
same_at-returns-in-Continue-other t c = search (rules, common_steps, Message-Continue)

pub same_at-returns-in-Do-other : goal.same_at-returns-in-Do-other
same_at-returns-in-Do-other t c = search (rules, common_steps, Message-Do)

pub same_at-returns-in-Message-other-2 : goal.same_at-returns-in-Message-other-2
same_at-returns-in-Message-other-2 t c = search (rules, common_steps, Choice-Message)

pub same_at-returns-then-eq : goal.same_at-returns-then-eq
same_at-returns-then-eq t c = search (rules, common_steps, Choice-Choice)

pub same_at-returns-else-eq : goal.same_at-returns-else-eq
same_at-returns-else-eq t c = search (rules, common_steps, Choice-Choice)

pub same_at-returns-in-Rec-other-2 : goal.same_at-returns-in-Rec-other-2
same_at-returns-in-Rec-other-2 t c = search (rules, common_steps, Choice-Rec)

pub same_at-returns-in-Continue-other-2 : goal.same_at-returns-in-Continue-other-2
same_at-returns-in-Continue-other-2 t c = search (rules, common_steps, Choice-Continue)

pub same_at-returns-in-Do-other-2 : goal.same_at-returns-in-Do-other-2
same_at-returns-in-Do-other-2 t c = search (rules, common_steps, Choice-Do)

pub same_at-returns-in-Message-other-3 : goal.same_at-returns-in-Message-other-3
same_at-returns-in-Message-other-3 t c = search (rules, common_steps, Rec-Message)

pub same_at-returns-in-Choice-other-3 : goal.same_at-returns-in-Choice-other-3
same_at-returns-in-Choice-other-3 t c = search (rules, common_steps, Rec-Choice)

pub same_at-returns-then-eq-2 : goal.same_at-returns-then-eq-2
same_at-returns-then-eq-2 t c = search (rules, common_steps, Rec-Rec)

pub same_at-returns-else-eq-2 : goal.same_at-returns-else-eq-2
same_at-returns-else-eq-2 t c = search (rules, common_steps, Rec-Rec)

pub same_at-returns-in-Continue-other-3 : goal.same_at-returns-in-Continue-other-3
same_at-returns-in-Continue-other-3 t c = search (rules, common_steps, Rec-Continue)

pub same_at-returns-in-Do-other-3 : goal.same_at-returns-in-Do-other-3
same_at-returns-in-Do-other-3 t c = search (rules, common_steps, Rec-Do)

pub same_at-returns-in-Message-other-4 : goal.same_at-returns-in-Message-other-4
same_at-returns-in-Message-other-4 t c = search (rules, common_steps, Continue-Message)

pub same_at-returns-in-Choice-other-4 : goal.same_at-returns-in-Choice-other-4
same_at-returns-in-Choice-other-4 t c = search (rules, common_steps, Continue-Choice)

pub same_at-returns-in-Rec-other-4 : goal.same_at-returns-in-Rec-other-4
same_at-returns-in-Rec-other-4 t c = search (rules, common_steps, Continue-Rec)

pub same_at-returns-in-Continue-other-4 : goal.same_at-returns-in-Continue-other-4
same_at-returns-in-Continue-other-4 t c = search (rules, common_steps, Continue-Continue)

pub same_at-returns-in-Do-other-4 : goal.same_at-returns-in-Do-other-4
same_at-returns-in-Do-other-4 t c = search (rules, common_steps, Continue-Do)

pub same_at-returns-in-Message-other-5 : goal.same_at-returns-in-Message-other-5
same_at-returns-in-Message-other-5 t c = search (rules, common_steps, Do-Message)

pub same_at-returns-in-Choice-other-5 : goal.same_at-returns-in-Choice-other-5
same_at-returns-in-Choice-other-5 t c = search (rules, common_steps, Do-Choice)

pub same_at-returns-in-Rec-other-5 : goal.same_at-returns-in-Rec-other-5
same_at-returns-in-Rec-other-5 t c = search (rules, common_steps, Do-Rec)

pub same_at-returns-in-Continue-other-5 : goal.same_at-returns-in-Continue-other-5
same_at-returns-in-Continue-other-5 t c = search (rules, common_steps, Do-Continue)

pub same_at-returns-in-Do-other-5 : goal.same_at-returns-in-Do-other-5
same_at-returns-in-Do-other-5 t c = search (rules, common_steps, Do-Do)
