use Rattle.std.proofs.Common.{◌∙◌, sym, []}
use Rattle.scr_trace.proofs.Pieces.{piece_missing, piece_there}
use Rattle.scr_trace.proofs.names.is_joined.Goals as goal

pub returns-in_default : goal.returns-in_default
returns-in_default c =
    sym (c.loop-piece.invariant ∙ piece_missing c.args.pieces.now c.loop-piece.piece-index (record { ref_ptr = (0, 0); now = [] })
    c.loop-piece.rest.now c.loop-piece-test.true c.in_default.ensures)

pub loop-piece-preserved : goal.loop-piece-preserved
loop-piece-preserved c =
    piece_there c.args.pieces.now c.loop-piece.piece-index (record { ref_ptr = (0, 0); now = [] }) c.args.text.now c.loop-piece.rest.now
    c.in-Some.behind.now c.loop-piece-test.true c.in-Some.ensures c.loop-piece.invariant
