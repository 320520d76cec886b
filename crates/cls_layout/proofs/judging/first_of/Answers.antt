use Rattle.cls_layout.specs.declared.format.Field.{Field}
use Rattle.cls_layout.specs.declared.format.Part.TheVariants as parts
use Rattle.cls_layout.proofs.Judged.{judged_on, judged_here, judged_last}
use Rattle.cls_layout.proofs.judging.first_of.Goals as goal

pub loop-index-init : goal.loop-index-init
loop-index-init c = λ r f. f

abbrev none_there : Field
none_there = record { at = 0; part = parts.Magic }

pub returns-in-Some : goal.returns-in-Some
returns-in-Some c =
    judged_here c.args.bytes.now c.args.places.now c.args.row.now c.loop-index.index none_there c.loop-index-test.true c.in-Some.fault
    (rw (c.behind.ensures, c.in-Some.is) at c.in_ok-fault.ensures) c.loop-index.invariant

pub loop-index-preserved : goal.loop-index-preserved
loop-index-preserved c =
    judged_on c.args.bytes.now c.args.places.now c.args.row.now c.loop-index.index none_there c.loop-index-test.true
    (rw (c.behind.ensures, c.in_default.is) at c.in_ok-fault.ensures) c.loop-index.invariant

pub returns : goal.returns
returns c = judged_last c.args.bytes.now c.args.places.now c.args.row.now c.loop-index.index c.loop-index-test.false c.loop-index.invariant
