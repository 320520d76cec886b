use Rattle.std.proofs.Common.{◌≡◌, ◌+◌, ◌<◌, length, arith, false-eqb, sym, ◌∙◌}
use Rattle.std.proofs.lemmas.Bool.{eqb-true}
use Rattle.jv_lex.specs.Outcome.{Outcome, refused, lexed}
use Rattle.jv_lex.proofs.Cuts.{first_of_pieces}
use Rattle.jv_lex.proofs.Scans.{front_of, front_within, front_long, front_shorter, front_utf8, front_readable, so_far_start, so_far_more}
use Rattle.jv_lex.proofs.Scans.{so_far_whole, reached_stop, stop_told, stop_within, told_answers}
use Rattle.jv_lex.proofs.scan.scan_tokens.Goals as goal

pub pieces-init : goal.pieces-init
pieces-init c =
    record {
      so_far = rw (c.new-found.ensures, c.start-place.ensures) (so_far_start c.args.file c.args.bytes.now);
      utf8 = c.requires.utf8;
      lines = rw c.start-place.ensures (omega arith);
      columns = rw c.start-place.ensures (omega arith);
    }

pub overflow_add-offset : goal.overflow_add-offset
overflow_add-offset c =
    let long : 0 < length c.pieces.rest.now = omega (arith, false-eqb _ 0 c.pieces-test.ensures) in
    let s = stop_told c.in-Err.field-0 c.pieces.rest.now long (sym c.in-Err.is ∙ c.piece_of.ensures) in
    let within = stop_within c.args.bytes.now c.pieces.offset c.pieces.rest.now c.in-Err.field-0.cause c.in-Err.field-0.at s
    c.pieces.invariant.so_far.reached in
    omega (arith, within, c.requires.bound)

pub place_of-requires-clause-within : goal.place_of-requires-clause-within
place_of-requires-clause-within c =
    let long : 0 < length c.pieces.rest.now = omega (arith, false-eqb _ 0 c.pieces-test.ensures) in
    let s = stop_told c.in-Err.field-0 c.pieces.rest.now long (sym c.in-Err.is ∙ c.piece_of.ensures) in
    let within = stop_within c.args.bytes.now c.pieces.offset c.pieces.rest.now c.in-Err.field-0.cause c.in-Err.field-0.at s
    c.pieces.invariant.so_far.reached in
    omega (arith, within)

pub returns-in-Err : goal.returns-in-Err
returns-in-Err c =
    let long : 0 < length c.pieces.rest.now = omega (arith, false-eqb _ 0 c.pieces-test.ensures) in
    let s = stop_told c.in-Err.field-0 c.pieces.rest.now long (sym c.in-Err.is ∙ c.piece_of.ensures) in
    let stopped = reached_stop c.args.bytes.now c.pieces.offset c.pieces.rest.now c.in-Err.field-0.cause c.in-Err.field-0.at s
    c.pieces.invariant.so_far.reached in
    let first = first_of_pieces c.args.bytes.now c.in-Err.field-0.cause (c.pieces.offset + c.in-Err.field-0.at) c.requires.utf8 stopped in
    rw (c.fault_at.ensures, c.place_of.ensures)
    (told_answers c.in-Err.field-0.cause _ (Outcome c.args.file c.args.bytes.now)
    (refused c.in-Err.field-0.cause (c.pieces.offset + c.in-Err.field-0.at) c.requires.bound first))

pub split_at-requires : goal.split_at-requires
split_at-requires c =
    let long : 0 < length c.pieces.rest.now = omega (arith, false-eqb _ 0 c.pieces-test.ensures) in
    front_within c.in-Ok.piece c.pieces.rest.now (front_of c.in-Ok.piece c.pieces.rest.now long (sym c.in-Ok.is ∙ c.piece_of.ensures))

pub put-requires : goal.put-requires
put-requires c =
    let long : 0 < length c.pieces.rest.now = omega (arith, false-eqb _ 0 c.pieces-test.ensures) in
    rw c.split_at.ensures.front
    (front_readable c.in-Ok.piece c.pieces.rest.now (front_of c.in-Ok.piece c.pieces.rest.now long (sym c.in-Ok.is ∙ c.piece_of.ensures))
    c.pieces.invariant.utf8)

pub pieces-smaller : goal.pieces-smaller
pieces-smaller c =
    let long : 0 < length c.pieces.rest.now = omega (arith, false-eqb _ 0 c.pieces-test.ensures) in
    rw c.split_at.ensures.back
    (front_shorter c.in-Ok.piece c.pieces.rest.now (front_of c.in-Ok.piece c.pieces.rest.now long (sym c.in-Ok.is ∙ c.piece_of.ensures)))

pub pieces-preserved : goal.pieces-preserved
pieces-preserved c =
    let long : 0 < length c.pieces.rest.now = omega (arith, false-eqb _ 0 c.pieces-test.ensures) in
    let f = front_of c.in-Ok.piece c.pieces.rest.now long (sym c.in-Ok.is ∙ c.piece_of.ensures) in
    let more = so_far_more c.in-Ok.piece c.pieces.rest.now f c.args.file c.args.bytes.now c.pieces.found.items c.pieces.place
    c.pieces.offset c.pieces.invariant.so_far in
    let some : 0 < c.in-Ok.piece.len = front_long c.in-Ok.piece c.pieces.rest.now f in
    record {
      so_far = rw (c.in_ok-put.ensures, c.after-place.ensures.place, c.split_at.ensures.front, c.split_at.ensures.back) more;
      utf8 = rw c.split_at.ensures.back (front_utf8 c.in-Ok.piece c.pieces.rest.now f c.pieces.invariant.utf8);
      lines = omega (arith, c.after-place.ensures.line, c.split_at.ensures.front_len, c.pieces.invariant.lines);
      columns = omega (arith, c.after-place.ensures.column, c.split_at.ensures.front_len, c.pieces.invariant.columns, some);
    }

pub returns : goal.returns
returns c =
    let empty : length c.pieces.rest.now ≡ 0 = eqb-true _ 0 (sym c.pieces-test.ensures) in
    lexed c.pieces.found.items c.requires.bound
    (so_far_whole c.args.file c.args.bytes.now c.pieces.found.items c.pieces.place c.pieces.offset c.pieces.rest.now empty c.requires.utf8
    c.pieces.invariant.so_far)
