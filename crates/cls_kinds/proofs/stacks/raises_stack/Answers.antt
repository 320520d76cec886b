use Rattle.std.proofs.Common.{sym, ap, ◌∙◌}
use Rattle.cls_kinds.specs.declared.kind.Kind.{Kind}
use Rattle.cls_kinds.specs.Stacks.{stack_at, stacks_of}
use Rattle.cls_kinds.proofs.Joining.{stopped_same, raised_step, raised_here, even_step}
use Rattle.cls_kinds.proofs.Stacking.{on_true}
use Rattle.cls_kinds.proofs.stacks.raises_stack.Goals as goal

pub returns-then-a-b : goal.returns-then-a-b
returns-then-a-b c = sym (stopped_same (stacks_of c.args.nodes.now) c.down.a c.down.b c.if-a-b.true) ∙ c.down.invariant.same

pub returns-then-was_raised : goal.returns-then-was_raised
returns-then-was_raised c =
    sym (on_true _ _ c.if-was_raised.true c.was_raised.ensures (stacks_of c.args.nodes.now) c.requires.raised).highest ∙ c.down.invariant.same

pub returns-then-was_raised-2 : goal.returns-then-was_raised-2
returns-then-was_raised-2 c =
    sym (on_true _ _ c.if-was_raised-2.true c.was_raised-in-down.ensures (stacks_of c.args.nodes.now) c.requires.raised).higher ∙ c.down.invariant.same

pub returns-then-joined-old : goal.returns-then-joined-old
returns-then-joined-old c =
    sym (raised_here (stack_at (stacks_of c.args.nodes.now) c.down.a) (stack_at (stacks_of c.args.nodes.now) c.down.b) _ _
    c.in-Some.old.kind
    c.in-Some-top_of.new.kind c.in-Some.ensures.top.1 c.in-Some-top_of.ensures.top.1 c.down.invariant.even
    (λ e. c.if-joined-old.true (ap (λ (k : Kind). k.0) c.joined.ensures ∙ e)))
    ∙ c.down.invariant.same

pub down-preserved : goal.down-preserved
down-preserved c = record {
  first = c.in-Some.ensures.top.0;
  second = c.in-Some-top_of.ensures.top.0;
  even = even_step (stack_at (stacks_of c.args.nodes.now) c.down.a) (stack_at (stacks_of c.args.nodes.now) c.down.b) _ _ c.in-Some.old.kind
      c.in-Some-top_of.new.kind c.in-Some.ensures.top.1 c.in-Some-top_of.ensures.top.1 c.down.invariant.even;
  same = raised_step (stack_at (stacks_of c.args.nodes.now) c.down.a) (stack_at (stacks_of c.args.nodes.now) c.down.b) _ _
      c.in-Some.old.kind
      c.in-Some-top_of.new.kind c.in-Some.ensures.top.1 c.in-Some-top_of.ensures.top.1 c.down.invariant.even
      (ap (λ (k : Kind). k.0) (sym c.joined.ensures) ∙ c.if-joined-old.false)
      ∙ c.down.invariant.same;
}
