use Rattle.lsp_frames.proofs.FrameLaws.{taken_off}
use Rattle.lsp_frames.proofs.frames.Frames.next.Goals as goal

pub returns-in_ok-body-in-Frame-clause-ok : goal.returns-in_ok-body-in-Frame-clause-ok
returns-in_ok-body-in-Frame-clause-ok c =
    taken_off c.args.limit c.self.inside.passed c.in-Frame.begins c.in-Frame.ends c.as_slice.result.now c.self.inside.bytes c.args.self.now
    c.in_ok-body-in-Frame.body c.as_slice.ensures c.self.view_is c.in-Frame.ensures c.in_ok-body-in-Frame.ensures
