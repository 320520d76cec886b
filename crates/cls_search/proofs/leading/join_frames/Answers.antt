use Rattle.std.proofs.Common.{inr, sym}
use Rattle.cls_kinds.specs.Numbers.{is_raised}
use Rattle.cls_kinds.specs.Stacks.{stack_at}
use Rattle.cls_kinds.proofs.Joining.{raised_not}
use Rattle.cls_search.proofs.LedLemmas.{join_stays, join_raises}
use Rattle.cls_search.proofs.leading.join_frames.Goals as goal

pub returns-then-operands-old-clause-joined : goal.returns-then-operands-old-clause-joined
returns-then-operands-old-clause-joined c = record {
  locals = rw c.in_default.is at c.in_ok-row.ensures;
  operands = join_stays c.args.stacks.now c.join.new.self c.args.old.operands c.args.new.now.operands c.in_ok-operands.operands
      c.in_ok-operands.ensures.grows c.requires.first c.requires.even c.in_ok-operands.ensures.joined c.if-operands-old.true;
}

pub returns-clause-joined : goal.returns-clause-joined
returns-clause-joined c = record {
  up = inr (join_raises (is_raised (stack_at c.args.stacks.now c.args.old.operands) (stack_at c.args.stacks.now c.args.new.now.operands))
      c.in_ok-operands.operands c.args.old.operands c.in_ok-operands.ensures.kept c.if-operands-old.false);
  locals = sym (raised_not c.args.old.locals.value.items c.args.new.now.locals.value.items c.requires.width
      (rw c.in_default.is at c.in_ok-row.ensures));
  operands = c.in_ok-operands.ensures.joined;
  there = c.in_ok-operands.ensures.there;
}
