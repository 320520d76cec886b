use Rattle.std.proofs.lemmas.Grind.{common_steps}
use Rattle.std.proofs.Common.{◌<◌, ◌≡◌, length, arith, false-eqb, sym}
use Rattle.std.proofs.lemmas.Bool.{eqb-true}
use Rattle.mg_read.proofs.Fronts.{told_front, told_none, front_within, front_long, front_shorter, front_readable}
use Rattle.mg_read.proofs.Cuts.{Front-more, SoFar-bad, SoFar-ill}
use Rattle.lsp_symbols.specs.Tokens.{shared}
use Rattle.lsp_symbols.proofs.tokens.scan_tokens.Goals as goal

pub returns-in_default : goal.returns-in_default
returns-in_default c =
    let long : 0 < length c.pieces.rest.now = omega (arith, false-eqb _ 0 c.pieces-test.ensures) in
    let none = told_none shared c.pieces.rest.now c.signs.ensures c.piece_of.ensures c.in_default.is in
    rw c.first_of.ensures (SoFar-bad _ _ _ _ _ _ _ _ _ _ c.ill_formed_at-ill_formed.ensures long none c.pieces.invariant.so_far)

pub split_at-requires : goal.split_at-requires
split_at-requires c = front_within _ _ _ (told_front shared c.pieces.rest.now c.signs.ensures c.piece_of.ensures c.in-Some.is)

pub put-requires : goal.put-requires
put-requires c = rw c.split_at.ensures.front
    (front_readable _ _ _ (told_front shared c.pieces.rest.now c.signs.ensures c.piece_of.ensures c.in-Some.is))

pub pieces-smaller : goal.pieces-smaller
pieces-smaller c = rw c.split_at.ensures.back
    (front_shorter _ _ _ (told_front shared c.pieces.rest.now c.signs.ensures c.piece_of.ensures c.in-Some.is))

pub pieces-preserved : goal.pieces-preserved
pieces-preserved c =
    let f = told_front shared c.pieces.rest.now c.signs.ensures c.piece_of.ensures c.in-Some.is in
    record {
      so_far = rw (c.in_ok-put.ensures, c.after-place.ensures.place, c.split_at.ensures.front, c.split_at.ensures.back)
          (Front-more _ _ _ _ _ _ _ _ _ _ f c.pieces.invariant.so_far);
      lines = omega (arith, c.after-place.ensures.line, c.split_at.ensures.front_len, c.pieces.invariant.lines);
      columns = omega (arith, c.after-place.ensures.column, c.split_at.ensures.front_len, c.pieces.invariant.columns, front_long _ _ _ f);
    }

pub returns-in-Some-ill_formed : goal.returns-in-Some-ill_formed
returns-in-Some-ill_formed c =
    let empty : length c.pieces.rest.now ≡ 0 = eqb-true _ 0 (sym c.pieces-test.ensures) in
    SoFar-ill _ _ _ _ _ _ _ _ _ _ c.in-Some-ill_formed.ensures empty c.pieces.invariant.so_far

pub returns-in-None : goal.returns-in-None
returns-in-None c = grind (arith, common_steps)
