-- What is left lies below.
use Rattle.std.proofs.Common.{arith}
use Rattle.vm_frames.proofs.States.{depth_is, drops, dropped-kept}
use Rattle.vm_frames.proofs.state.State.drop.Goals as goal

pub drop_top-requires : goal.drop_top-requires
drop_top-requires c = omega (arith, c.requires, depth_is c.self.inside c.args.self.now c.self.view_is c.self.invariant)

pub invariant_of-self : goal.invariant_of-self
invariant_of-self c =
    dropped-kept c.self.inside c.args.self.now c.self.view_is c.self.invariant c.drop_top.new.self c.drop_top.ensures.callers c.args.place
    c.args.count
    c.drop_top.ensures.running c.requires c.drop_top.ensures.spare

pub returns-clause-machine : goal.returns-clause-machine
returns-clause-machine c =
    drops c.self.inside c.args.self.now c.self.view_is c.self.invariant c.drop_top.new.self c.drop_top.ensures.callers c.args.place
    c.args.count
    c.drop_top.ensures.running c.requires
