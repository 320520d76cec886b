use Rattle.std.proofs.Common.{◌+◌, ◌<◌, length, List, take, subst, sym, arith}
use Rattle.lsp_text.specs.declared.positions.Position.{Position}
use Rattle.lsp_text.specs.Positions.{ArePositionsOf}
use Rattle.lsp_text.proofs.PlaceLaws.{positions_more}
use Rattle.lsp_text.proofs.positions.positions_of.Goals as goal

pub loop-offset-preserved : goal.loop-offset-preserved
loop-offset-preserved c =
    let less : c.loop-offset.offset-index < length c.args.offsets.now = omega arith in
    record {
      text = c.line_at-number.ensures.utf8;
      behind = c.line_at-number.ensures.line.behind;
      shorter = c.line_at-number.ensures.line.shorter;
      so_far =
          subst
          (λ (ps : List Position).
          ArePositionsOf c.args.encoding c.args.text.now (take (c.loop-offset.offset-index + 1) c.args.offsets.now) ps)
          (sym c.in_ok-push.ensures.items)
          (positions_more c.args.encoding c.args.text.now c.args.offsets.now c.loop-offset.positions.items c.loop-offset.offset-index
          c.position_in.result less c.loop-offset.invariant.so_far c.position_in.ensures);
    }
