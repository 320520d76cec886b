use Rattle.std.proofs.lemmas.Result.{err_from_is_err_and}
use Rattle.gen_class.proofs.Programs.{classes_begin, file_more, file_fails, files_made, files_fine}
use Rattle.gen_class.proofs.gen_classes.Goals as goal

pub loop-number-init : goal.loop-number-init
loop-number-init c = rw c.new-files.ensures (classes_begin c.args.core.now)

pub loop-number-preserved : goal.loop-number-preserved
loop-number-preserved c = file_more c.args.core.now c.classes-classes.result.now c.classes-classes.ensures c.loop-number.number
    c.index-classes-number.result _ _ _ c.loop-number-test.true c.index-classes-number.is
    c.in_ok-file_of.ensures.made c.in_ok-file_of.ensures.fine c.in_ok-push.ensures.ok c.loop-number.invariant

pub returns-clause-made : goal.returns-clause-made
returns-clause-made c = files_made c.args.core.now c.classes-classes.result.now c.classes-classes.ensures c.loop-number.number _
    c.loop-number-test.false c.loop-number.invariant

pub returns-clause-fine : goal.returns-clause-fine
returns-clause-fine c = files_fine c.args.core.now c.classes-classes.result.now c.classes-classes.ensures c.loop-number.number _
    c.loop-number-test.false c.loop-number.invariant

pub returns-in_err-file_of-clause-fault : goal.returns-in_err-file_of-clause-fault
returns-in_err-file_of-clause-fault c =
    let e = err_from_is_err_and c.from_residual.result c.from_residual.ensures.1 in
    rw (e.1, e.2) (file_fails c.args.core.now c.classes-classes.result.now c.classes-classes.ensures c.loop-number.number
    c.index-classes-number.result _ _ c.loop-number-test.true c.index-classes-number.is c.in_err-file_of.ensures.fault
    c.loop-number.invariant)
