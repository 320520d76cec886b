use Rattle.std.proofs.Common.{arith}
use Rattle.use_flow.proofs.Jumping.{room_end}
use Rattle.use_flow.proofs.jumps.put_at.Goals as goal

pub returns : goal.returns
returns c =
    room_end c.make_room.new.nows.items c.push.new.self.items c.args.nows.now.items c.args.at c.args.at c.args.now (omega arith)
    c.in_ok-push.ensures.items c.in_ok-make_room.ensures
