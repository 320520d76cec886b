use Rattle.std.proofs.lemmas.Grind.{common_steps}
use Rattle.std.proofs.lemmas.Result.{err_from_is_err_and}
use Rattle.std.proofs.Common.{map, arith}
use Rattle.jv_types.specs.Tables.{program_in}
use Rattle.jv_types.specs.inner.Tabled.{class_in}
use Rattle.jv_types.proofs.MethodSteps.{entry_in, class_wrong, class_more}
use Rattle.jv_types.proofs.methods.check_classes.Goals as goal

pub check_class-requires : goal.check_class-requires
check_class-requires c = entry_in (program_in c.args.table.now) c.args.classes.now c.requires c.loop-class.class-index c.class-item.result
    c.loop-class-test.true c.class-item.is

pub returns-in_err-check_class : goal.returns-in_err-check_class
returns-in_err-check_class c =
    let r = err_from_is_err_and c.from_residual.result c.from_residual.ensures.1 in
    rw (r.1, r.2)
    (class_wrong (program_in c.args.table.now) c.args.classes.now c.loop-class.class-index (map class_in c.args.classes.now)
    c.loop-class.invariant c.class-item.result c.loop-class-test.true c.class-item.is
    c.in_err-check_class.field-0.0 c.in_err-check_class.ensures)

pub loop-class-preserved : goal.loop-class-preserved
loop-class-preserved c =
    class_more (program_in c.args.table.now) c.args.classes.now c.loop-class.class-index (map class_in c.args.classes.now)
    c.loop-class.invariant c.class-item.result c.loop-class-test.true c.class-item.is
    c.in_ok-check_class.ensures

pub returns : goal.returns
returns c = grind (arith, common_steps)
