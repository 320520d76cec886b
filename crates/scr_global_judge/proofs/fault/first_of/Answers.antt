use Rattle.std.proofs.Common.{ap, arith}
use Rattle.scr_global_tree.specs.Faults.{Of}
use Rattle.scr_global_tree.specs.Written.{written_of}
use Rattle.scr_tree.specs.declared.condition.Condition.TheVariants as conditions
use Rattle.scr_judge.specs.inner.View.{named_of}
use Rattle.scr_judge.proofs.Numbers.{rest_end, rest_here, rest_later}
use Rattle.scr_global_judge.proofs.fault.first_of.Goals as goal

pub returns-in-Some : goal.returns-in-Some
returns-in-Some c =
    rest_here (Of (written_of c.args.file c.args.written.now)) c.args.conditions.now c.loop-condition.condition-index
    c.loop-condition.invariant
    c.loop-condition-test.true conditions.DuplicateName _ c.in_ok-named.field-0
    c.in_ok-named.ensures (ap named_of c.in-Some.is)

pub loop-condition-preserved : goal.loop-condition-preserved
loop-condition-preserved c =
    rest_later (Of (written_of c.args.file c.args.written.now)) c.args.conditions.now c.loop-condition.condition-index
    c.loop-condition.invariant
    c.loop-condition-test.true conditions.DuplicateName c.in_ok-named.field-0
    c.in_ok-named.ensures (ap named_of c.in_default.is)

pub returns : goal.returns
returns c = rest_end (Of (written_of c.args.file c.args.written.now)) c.args.conditions.now c.loop-condition.condition-index
    c.loop-condition.invariant (omega arith)
