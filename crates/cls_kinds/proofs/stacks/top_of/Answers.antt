use Rattle.std.proofs.Common.{◌<◌, arith}
use Rattle.cls_kinds.proofs.Stacking.{first_empty, is_within, below_at, list_at}
use Rattle.cls_kinds.proofs.stacks.top_of.Goals as goal

pub returns-then-stack-eq0-clause-top : goal.returns-then-stack-eq0-clause-top
returns-then-stack-eq0-clause-top c = first_empty c.args.nodes.now c.args.stack c.if-stack-eq0.true

pub bounds-nodes-stack : goal.bounds-nodes-stack
bounds-nodes-stack c =
    let some : 0 < c.args.stack = omega (arith, c.if-stack-eq0.false) in is_within c.args.nodes.now c.args.stack some c.requires.there

pub returns-clause-top : goal.returns-clause-top
returns-clause-top c =
    let some : 0 < c.args.stack = omega (arith, c.if-stack-eq0.false) in (
      below_at c.args.nodes.now c.requires.made c.args.stack _ some c.requires.there,
      list_at c.args.nodes.now c.requires.made c.args.stack _
          some c.requires.there,
    )
