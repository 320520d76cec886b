use Rattle.std.proofs.Common.{subst, arith}
use Rattle.vm_model.specs.View.{classes_of}
use Rattle.cls_search.specs.Beginning.{FirstOr}
use Rattle.cls_search.proofs.Searched.{class_read, earlier_more, first_found, all_earlier}
use Rattle.cls_search.proofs.program.first_place.Goals as goal

pub first_untypable-requires : goal.first_untypable-requires
first_untypable-requires c = (
  classes_of c.args.classes.now,
  (
    c.loop-number.number,
    class_read c.args.classes.now c.args.program.now c.requires c.loop-number.number c.index-classes-number.result c.index.result.now
        c.loop-number-test.true c.index-classes-number.is c.index.ensures,
  ),
)

pub returns-in-Some : goal.returns-in-Some
returns-in-Some c =
    let p = classes_of c.args.classes.now in
    let is = class_read c.args.classes.now c.args.program.now c.requires c.loop-number.number c.index-classes-number.result
    c.index.result.now
    c.loop-number-test.true c.index-classes-number.is c.index.ensures in
    first_found c.args.classes.now c.args.program.now c.requires c.loop-number.number c.in-Some.method c.loop-number.invariant
    (subst (FirstOr p c.loop-number.number) c.in-Some.is (c.in_ok-first.ensures p c.loop-number.number is))

pub loop-number-preserved : goal.loop-number-preserved
loop-number-preserved c =
    let p = classes_of c.args.classes.now in
    let is = class_read c.args.classes.now c.args.program.now c.requires c.loop-number.number c.index-classes-number.result
    c.index.result.now
    c.loop-number-test.true c.index-classes-number.is c.index.ensures in
    earlier_more c.args.classes.now c.args.program.now c.requires c.loop-number.number c.loop-number.invariant
    (subst (FirstOr p c.loop-number.number) c.in_default.is (c.in_ok-first.ensures p c.loop-number.number is))

pub returns : goal.returns
returns c = all_earlier c.args.classes.now c.args.program.now c.requires c.loop-number.number c.loop-number.invariant
    (omega (arith, c.loop-number-test.false))
