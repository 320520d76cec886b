use Rattle.std.proofs.Common.{◌≡◌, length, sym, ap, arith}
use Rattle.cls_tree.specs.View.{instrs_of}
use Rattle.cls_tree.specs.Layout.{code_bytes}
use Rattle.cls_layout.specs.Row.{is_bad_entry}
use Rattle.cls_layout.specs.Faults.{first_misnamed, misnamed, right}
use Rattle.cls_layout.proofs.Judged.{decoded_within, code_faulty, code_right, misnamed_within}
use Rattle.cls_layout.proofs.judging.code_fault.Goals as goal

pub moved_fault-requires : goal.moved_fault-requires
moved_fault-requires c = decoded_within c.args.at c.args.code.now c.in-Err.fault c.requires c.in-Err.ensures.found

pub returns-in-Err : goal.returns-in-Err
returns-in-Err c = code_faulty (is_bad_entry c.args.bytes.now c.args.places.now) c.args.at c.args.code.now c.in-Err.fault
    c.in_ok-moved-in-Err.moved c.in-Err.ensures.found c.in_ok-moved-in-Err.ensures

pub misnamed_in-requires-clause-fits : goal.misnamed_in-requires-clause-fits
misnamed_in-requires-clause-fits c =
    rw c.as_slice.ensures.items ((code_right c.args.code.now (instrs_of c.in-Ok.instrs.items) c.in-Ok.ensures.found).fits)

pub misnamed_in-requires-clause-few : goal.misnamed_in-requires-clause-few
misnamed_in-requires-clause-few c =
    rw c.as_slice.ensures.items ((code_right c.args.code.now (instrs_of c.in-Ok.instrs.items) c.in-Ok.ensures.found).short)

pub returns-in_default : goal.returns-in_default
returns-in_default c = right c.in-Ok.ensures.found (rw (← c.as_slice.ensures.items) (sym c.in_default.ensures))

pub overflow_add-result : goal.overflow_add-result
overflow_add-result c =
    let e : first_misnamed (is_bad_entry c.args.bytes.now c.args.places.now) 0 (instrs_of c.as_slice.result.now) ≡ _ =
    sym c.in-Some.ensures in
    let k = misnamed_within (is_bad_entry c.args.bytes.now c.args.places.now) (instrs_of c.as_slice.result.now) 0 c.in-Some.place e in
    let r = code_right c.args.code.now (instrs_of c.in-Ok.instrs.items) c.in-Ok.ensures.found in
    let e2 = ap (λ is. length (code_bytes (instrs_of is))) c.as_slice.ensures.items in
    let e3 = ap length r.spelled in
    let q = c.requires in
    omega (arith, k, e2, e3, q)

pub returns : goal.returns
returns c = misnamed c.in-Ok.ensures.found (rw (← c.as_slice.ensures.items) (sym c.in-Some.ensures))
