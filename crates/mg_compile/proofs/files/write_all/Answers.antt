use Rattle.std.proofs.Common.{arith}
use Rattle.mg_compile.proofs.Writing.{left_begin, next_fits, left_more, left_all}
use Rattle.mg_compile.proofs.files.write_all.Goals as goal

pub loop-number-init : goal.loop-number-init
loop-number-init c = rw c.new-files.ensures (left_begin c.args.core.now c.args.own.now c.args.classes.now c.requires.spelled)

pub write_one-requires : goal.write_one-requires
write_one-requires c =
    next_fits c.args.core.now c.args.own.now c.args.classes.now c.loop-number.number c.index-classes-number.result
    c.loop-number-test.true
    c.index-classes-number.is _ c.loop-number.invariant

pub loop-number-preserved : goal.loop-number-preserved
loop-number-preserved c =
    let same = c.requires.same in
    let within = c.loop-number-test.true in
    left_more c.args.core.now c.args.own.now c.args.classes.now c.loop-number.number c.index-classes-number.result within
    c.index-classes-number.is c.index-own-number.result _ _ _ (omega (arith, same, within)) c.index-own-number.is
    c.in_ok-write_one.ensures c.in_ok-push.ensures.ok c.loop-number.invariant

pub returns : goal.returns
returns c =
    left_all c.args.core.now c.args.own.now c.args.classes.now c.loop-number.number _ c.requires.same c.loop-number-test.false
    c.loop-number.invariant
