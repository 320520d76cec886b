use Rattle.gen_class.proofs.Programs.{found_more, found_all}
use Rattle.gen_class.proofs.making.push_methods.Goals as goal

pub loop-number-preserved : goal.loop-number-preserved
loop-number-preserved c = found_more c.args.core.now c.args.numbers.now c.loop-number.number-index 0 _ _ _
    c.loop-number-test.true c.in_ok-push_method.ensures c.loop-number.invariant

pub returns : goal.returns
returns c = found_all c.args.core.now c.args.numbers.now c.loop-number.number-index _ _ c.loop-number-test.false
    c.loop-number.invariant
