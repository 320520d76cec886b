use Rattle.mg_refined.proofs.Verdicts.{yes_tells, no_tells}
use Rattle.mg_refined.proofs.refined.tell.Goals as goal

pub returns-in_ok-yes_text-in-Yes : goal.returns-in_ok-yes_text-in-Yes
returns-in_ok-yes_text-in-Yes c =
    yes_tells c.args.a.now c.args.b.now c.in_ok-pairs.field-0 c.in-Yes.pairs c.len.result c.in_ok-yes_text-in-Yes.field-0
    c.in_ok-pairs.ensures.verdict c.in-Yes.is c.len.ensures.value c.in_ok-yes_text-in-Yes.ensures

pub returns-in_ok-no_text-in-No : goal.returns-in_ok-no_text-in-No
returns-in_ok-no_text-in-No c =
    no_tells c.args.a.now c.args.b.now c.in_ok-pairs.field-0 c.in-No.calls c.in-No.reason c.as_slice.result.now
    c.in_ok-no_text-in-No.field-0 c.in_ok-pairs.ensures.verdict c.in-No.is c.as_slice.ensures.items c.in_ok-no_text-in-No.ensures
