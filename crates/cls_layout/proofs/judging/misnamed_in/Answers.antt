use Rattle.std.proofs.Common.{◌+◌, drop, sym, ap, arith}
use Rattle.std.proofs.lemmas.List.{drop_all}
use Rattle.cls_tree.specs.View.{instr_of, instrs_of}
use Rattle.cls_layout.specs.Row.{is_bad_entry}
use Rattle.cls_layout.proofs.Drops.{map_drop_is}
use Rattle.cls_layout.proofs.Judged.{misnaming_first, misnaming_last, misnaming_found, misnaming_more, one_fits, one_few}
use Rattle.cls_layout.proofs.judging.misnamed_in.Goals as goal

pub loop-instr-init : goal.loop-instr-init
loop-instr-init c = misnaming_first (is_bad_entry c.args.bytes.now c.args.places.now) (instrs_of c.args.instrs.now) c.requires.fits
    c.requires.few

pub returns-then-is_misnaming : goal.returns-then-is_misnaming
returns-then-is_misnaming c =
    let e = map_drop_is instr_of c.args.instrs.now c.loop-instr.instr-index c.instr-item.result c.loop-instr-test.true c.instr-item.is in
    misnaming_found (is_bad_entry c.args.bytes.now c.args.places.now) (instrs_of c.args.instrs.now) c.loop-instr.place
    (instrs_of (drop c.loop-instr.instr-index c.args.instrs.now))
    (instrs_of (drop (c.loop-instr.instr-index + 1) c.args.instrs.now)) (instr_of c.instr-item.result) e c.loop-instr.invariant
    (sym c.if-is_misnaming.ensures)

pub size_of_instr-place-requires-clause-fits : goal.size_of_instr-place-requires-clause-fits
size_of_instr-place-requires-clause-fits c =
    let e = map_drop_is instr_of c.args.instrs.now c.loop-instr.instr-index c.instr-item.result c.loop-instr-test.true c.instr-item.is in
    one_fits (is_bad_entry c.args.bytes.now c.args.places.now) (instrs_of c.args.instrs.now) c.loop-instr.place
    (instrs_of (drop c.loop-instr.instr-index c.args.instrs.now))
    (instrs_of (drop (c.loop-instr.instr-index + 1) c.args.instrs.now)) (instr_of c.instr-item.result) e c.loop-instr.invariant

pub size_of_instr-place-requires-clause-few : goal.size_of_instr-place-requires-clause-few
size_of_instr-place-requires-clause-few c =
    let e = map_drop_is instr_of c.args.instrs.now c.loop-instr.instr-index c.instr-item.result c.loop-instr-test.true c.instr-item.is in
    let k = one_few (is_bad_entry c.args.bytes.now c.args.places.now) (instrs_of c.args.instrs.now) c.loop-instr.place
    (instrs_of (drop c.loop-instr.instr-index c.args.instrs.now))
    (instrs_of (drop (c.loop-instr.instr-index + 1) c.args.instrs.now)) (instr_of c.instr-item.result) e c.loop-instr.invariant in
    omega (arith, k)

pub overflow_add-place : goal.overflow_add-place
overflow_add-place c =
    let e = map_drop_is instr_of c.args.instrs.now c.loop-instr.instr-index c.instr-item.result c.loop-instr-test.true c.instr-item.is in
    let k = one_few (is_bad_entry c.args.bytes.now c.args.places.now) (instrs_of c.args.instrs.now) c.loop-instr.place
    (instrs_of (drop c.loop-instr.instr-index c.args.instrs.now))
    (instrs_of (drop (c.loop-instr.instr-index + 1) c.args.instrs.now)) (instr_of c.instr-item.result) e c.loop-instr.invariant in
    omega (arith, k, c.size_of_instr-place.ensures)

pub loop-instr-preserved : goal.loop-instr-preserved
loop-instr-preserved c =
    let e = map_drop_is instr_of c.args.instrs.now c.loop-instr.instr-index c.instr-item.result c.loop-instr-test.true c.instr-item.is in
    misnaming_more (is_bad_entry c.args.bytes.now c.args.places.now) (instrs_of c.args.instrs.now) c.loop-instr.place
    (instrs_of (drop c.loop-instr.instr-index c.args.instrs.now))
    (instrs_of (drop (c.loop-instr.instr-index + 1) c.args.instrs.now)) (instr_of c.instr-item.result) e c.loop-instr.invariant
    (c.loop-instr.place + c.size_of_instr-place.result) (ap (λ n. c.loop-instr.place + n) c.size_of_instr-place.ensures)
    (sym c.if-is_misnaming.ensures)

pub returns : goal.returns
returns c =
    misnaming_last (is_bad_entry c.args.bytes.now c.args.places.now) (instrs_of c.args.instrs.now) c.loop-instr.place
    (instrs_of (drop c.loop-instr.instr-index c.args.instrs.now))
    (ap instrs_of (drop_all c.loop-instr.instr-index c.args.instrs.now c.loop-instr-test.false)) c.loop-instr.invariant
