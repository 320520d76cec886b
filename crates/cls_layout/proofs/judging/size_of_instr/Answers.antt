use Rattle.std.proofs.Common.{sym, arith}
use Rattle.cls_tree.specs.View.{instr_of}
use Rattle.cls_layout.proofs.Judged.{instr_length}
use Rattle.cls_layout.proofs.judging.size_of_instr.Goals as goal

pub offset_bytes-requires : goal.offset_bytes-requires
offset_bytes-requires c =
    let k = instr_length c.args.place (instr_of c.args.instr.now) c.in-Some.form (sym c.in-Some.ensures) c.requires.fits in
    let f = c.requires.few in
    omega (arith, k, f)

pub overflow_add-result-in-Some : goal.overflow_add-result-in-Some
overflow_add-result-in-Some c =
    let k = instr_length c.args.place (instr_of c.args.instr.now) c.in-Some.form (sym c.in-Some.ensures) c.requires.fits in
    let f = c.requires.few in
    omega (arith, k, f, c.fixed_size.ensures, c.offset_bytes.ensures)

pub returns : goal.returns
returns c =
    let k = instr_length c.args.place (instr_of c.args.instr.now) c.in-Some.form (sym c.in-Some.ensures) c.requires.fits in
    omega (arith, k, c.fixed_size.ensures, c.offset_bytes.ensures)
