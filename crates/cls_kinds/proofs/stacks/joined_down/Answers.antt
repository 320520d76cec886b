use Rattle.std.proofs.Common.{◌++◌, ◌∷◌, [], reverse, sym, ap, ◌∙◌}
use Rattle.cls_kinds.specs.Numbers.{joined_all}
use Rattle.cls_kinds.specs.Stacks.{stack_at, stacks_of}
use Rattle.cls_kinds.proofs.Joining.{itself_joined, joined_step, even_step, raised_not, raised_not_second}
use Rattle.cls_kinds.proofs.Stacking.{on_true}
use Rattle.cls_kinds.proofs.stacks.joined_down.Goals as goal

pub returns-then-a-b-clause-joined : goal.returns-then-a-b-clause-joined
returns-then-a-b-clause-joined c =
    ap (λ l. l ++ reverse c.down.kinds.items) (itself_joined (stacks_of c.args.nodes.now) c.down.a c.down.b c.if-a-b.true) ∙
    c.down.invariant.same

pub returns-then-was_raised-clause-joined : goal.returns-then-was_raised-clause-joined
returns-then-was_raised-clause-joined c =
    ap (λ l. l ++ reverse c.down.kinds.items)
    (sym (raised_not (stack_at (stacks_of c.args.nodes.now) c.down.a) (stack_at (stacks_of c.args.nodes.now) c.down.b) c.down.invariant.even
    (on_true _ _ c.if-was_raised.true c.was_raised.ensures (stacks_of c.args.nodes.now) c.requires.raised).highest))
    ∙ c.down.invariant.same

pub returns-then-was_raised-2-clause-joined : goal.returns-then-was_raised-2-clause-joined
returns-then-was_raised-2-clause-joined c =
    ap (λ l. l ++ reverse c.down.kinds.items)
    (sym (raised_not_second (stack_at (stacks_of c.args.nodes.now) c.down.a) (stack_at (stacks_of c.args.nodes.now) c.down.b)
    c.down.invariant.even (on_true _ _ c.if-was_raised-2.true c.was_raised-in-down.ensures (stacks_of c.args.nodes.now) c.requires.raised).highest))
    ∙ c.down.invariant.same

pub down-preserved : goal.down-preserved
down-preserved c = record {
  first = c.in-Some.ensures.top.0;
  second = c.in-Some-top_of.ensures.top.0;
  even = even_step (stack_at (stacks_of c.args.nodes.now) c.down.a) (stack_at (stacks_of c.args.nodes.now) c.down.b) _ _ c.in-Some.old.kind
      c.in-Some-top_of.new.kind c.in-Some.ensures.top.1 c.in-Some-top_of.ensures.top.1 c.down.invariant.even;
  same = ap (λ l. joined_all (stack_at (stacks_of c.args.nodes.now) c.in-Some.old.below)
      (stack_at (stacks_of c.args.nodes.now) c.in-Some-top_of.new.below) ++ reverse l)
      (c.in_ok-push.ensures.items ∙ ap (λ k. c.down.kinds.items ++ k ∷ []) c.joined.ensures)
      ∙ joined_step (stack_at (stacks_of c.args.nodes.now) c.down.a) (stack_at (stacks_of c.args.nodes.now) c.down.b) _ _ c.in-Some.old.kind
      c.in-Some-top_of.new.kind c.down.kinds.items c.in-Some.ensures.top.1 c.in-Some-top_of.ensures.top.1 c.down.invariant.even
      ∙ c.down.invariant.same;
}
