use Rattle.std.proofs.Common.{◌≡◌, ◌<◌, ◌≤◌, length, get_or, ap, sym, ◌∙◌, arith}
use Rattle.cls_tree.specs.Jumps.{starts_from, jumps_outside}
use Rattle.cls_tree.specs.View.{instr_of, instrs_of}
use Rattle.cls_code.specs.Inner.{IsMarked}
use Rattle.cls_code.proofs.Going.{going_first, going_on, going_found, going_over, all_within, as_many, marks_are}
use Rattle.cls_code.proofs.jumps.first_outside.Goals as goal

pub marks_of-requires : goal.marks_of-requires
marks_of-requires c = all_within c.args.starts.now c.args.instrs.now c.args.len c.requires.started c.requires.long

pub bounds-starts-index : goal.bounds-starts-index
bounds-starts-index c = let n = as_many c.args.starts.now c.args.instrs.now c.requires.started in omega arith

pub is_outside-requires : goal.is_outside-requires
is_outside-requires c =
    let n = as_many c.args.starts.now c.args.instrs.now c.requires.started in
    let low : get_or c.args.starts.now c.loop-index.index 0 < c.args.len = all_within c.args.starts.now c.args.instrs.now c.args.len
    c.requires.started c.requires.long c.loop-index.index 0 (omega arith) in
    omega arith

pub overflow_cast-result : goal.overflow_cast-result
overflow_cast-result c =
    let n = as_many c.args.starts.now c.args.instrs.now c.requires.started in
    let low : get_or c.args.starts.now c.loop-index.index 0 < c.args.len = all_within c.args.starts.now c.args.instrs.now c.args.len
    c.requires.started c.requires.long c.loop-index.index 0 (omega arith) in
    record { fits = omega arith }

pub loop-index-preserved : goal.loop-index-preserved
loop-index-preserved c =
    let marked : IsMarked (starts_from 0 (instrs_of c.args.instrs.now)) c.deref.result.now =
    marks_are c.args.starts.now (starts_from 0 (instrs_of c.args.instrs.now)) c.in_ok-marks.marks.items c.deref.result.now
    c.requires.started c.deref.ensures.value c.in_ok-marks.ensures in
    going_on c.args.instrs.now c.args.starts.now c.loop-index.index c.index-instrs-index.result c.loop-index-test.true
    c.index-instrs-index.is c.loop-index.invariant
    (sym (c.is_outside.ensures _ marked) ∙ c.if-is_outside.false)

pub returns : goal.returns
returns c = sym (going_over c.args.instrs.now c.args.starts.now c.loop-index.index c.loop-index-test.false c.loop-index.invariant)

pub returns-then-is_outside : goal.returns-then-is_outside
returns-then-is_outside c =
    let marked : IsMarked (starts_from 0 (instrs_of c.args.instrs.now)) c.deref.result.now =
    marks_are c.args.starts.now (starts_from 0 (instrs_of c.args.instrs.now)) c.in_ok-marks.marks.items c.deref.result.now
    c.requires.started c.deref.ensures.value c.in_ok-marks.ensures in
    sym (going_found c.args.instrs.now c.args.starts.now c.loop-index.index c.index-instrs-index.result c.loop-index-test.true
    c.index-instrs-index.is c.loop-index.invariant
    (sym (c.is_outside.ensures _ marked) ∙ c.if-is_outside.true))
