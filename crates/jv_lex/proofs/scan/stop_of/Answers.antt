use Rattle.std.proofs.Common.{◌<◌, length, arith, false-eqb, sym, ◌∙◌}
use Rattle.jv_lex.proofs.Scans.{front_of, front_within, front_shorter, reached_more, reached_stop, stop_told, stop_within}
use Rattle.jv_lex.proofs.scan.stop_of.Goals as goal

pub overflow_add-result : goal.overflow_add-result
overflow_add-result c =
    let long : 0 < length c.pieces.rest.now = omega (arith, false-eqb _ 0 c.pieces-test.ensures) in
    let s = stop_told c.in-Err.field-0 c.pieces.rest.now long (sym c.in-Err.is ∙ c.piece_of.ensures) in
    omega (
      arith,
      stop_within c.args.bytes.now c.pieces.offset c.pieces.rest.now c.in-Err.field-0.cause c.in-Err.field-0.at s
          c.pieces.invariant,
      c.requires,
    )

pub returns-in-Err : goal.returns-in-Err
returns-in-Err c =
    let long : 0 < length c.pieces.rest.now = omega (arith, false-eqb _ 0 c.pieces-test.ensures) in
    let s = stop_told c.in-Err.field-0 c.pieces.rest.now long (sym c.in-Err.is ∙ c.piece_of.ensures) in
    reached_stop c.args.bytes.now c.pieces.offset c.pieces.rest.now c.in-Err.field-0.cause c.in-Err.field-0.at s c.pieces.invariant

pub split_at-requires : goal.split_at-requires
split_at-requires c =
    let long : 0 < length c.pieces.rest.now = omega (arith, false-eqb _ 0 c.pieces-test.ensures) in
    front_within c.in-Ok.piece c.pieces.rest.now (front_of c.in-Ok.piece c.pieces.rest.now long (sym c.in-Ok.is ∙ c.piece_of.ensures))

pub pieces-smaller : goal.pieces-smaller
pieces-smaller c =
    let long : 0 < length c.pieces.rest.now = omega (arith, false-eqb _ 0 c.pieces-test.ensures) in
    rw c.split_at.ensures.back
    (front_shorter c.in-Ok.piece c.pieces.rest.now (front_of c.in-Ok.piece c.pieces.rest.now long (sym c.in-Ok.is ∙ c.piece_of.ensures)))

pub pieces-preserved : goal.pieces-preserved
pieces-preserved c =
    let long : 0 < length c.pieces.rest.now = omega (arith, false-eqb _ 0 c.pieces-test.ensures) in
    let f = front_of c.in-Ok.piece c.pieces.rest.now long (sym c.in-Ok.is ∙ c.piece_of.ensures) in
    rw c.split_at.ensures.back (reached_more c.in-Ok.piece c.pieces.rest.now f c.args.bytes.now c.pieces.offset c.pieces.invariant)
