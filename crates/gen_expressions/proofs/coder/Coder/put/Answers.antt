use Rattle.gen_expressions.proofs.Written.{put_is}
use Rattle.std.proofs.Common.{refl}
use Rattle.gen_expressions.proofs.coder.Coder.put.Goals as goal

pub returns : goal.returns
returns c =
    put_is c.args.self.now c.args.draft.now (record { instrs = c.push.new.self; labels = c.args.draft.now.labels })
    (record { op = c.args.op; operand = c.args.operand }) c.in_ok-push.ensures.items refl
