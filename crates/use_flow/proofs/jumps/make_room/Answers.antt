use Rattle.std.proofs.Common.{arith}
use Rattle.use_flow.proofs.Jumping.{room_next, room_made}
use Rattle.use_flow.proofs.jumps.make_room.Goals as goal

pub loop-place-preserved : goal.loop-place-preserved
loop-place-preserved c =
    room_next c.loop-place.nows.items c.push.new.self.items c.args.nows.now.items c.loop-place._place c.args.at (omega arith)
    c.in_ok-push.ensures.items c.loop-place.invariant

pub returns : goal.returns
returns c = room_made c.loop-place.nows.items c.args.nows.now.items c.loop-place._place c.args.at (omega arith) c.loop-place.invariant
