use Rattle.std.proofs.Common.{◌<◌, length, sym, ap, arith}
use Rattle.cls_kinds.proofs.Stacking.{first_empty, is_within, depth_at}
use Rattle.cls_kinds.proofs.stacks.depth_of.Goals as goal

pub returns-then-stack-eq0 : goal.returns-then-stack-eq0
returns-then-stack-eq0 c = sym (ap length (first_empty c.args.nodes.now c.args.stack c.if-stack-eq0.true))

pub bounds-nodes-stack : goal.bounds-nodes-stack
bounds-nodes-stack c =
    let some : 0 < c.args.stack = omega (arith, c.if-stack-eq0.false) in is_within c.args.nodes.now c.args.stack some c.requires.there

pub returns : goal.returns
returns c =
    let some : 0 < c.args.stack = omega (arith, c.if-stack-eq0.false) in
    depth_at c.args.nodes.now c.requires.made c.args.stack _ some c.requires.there
