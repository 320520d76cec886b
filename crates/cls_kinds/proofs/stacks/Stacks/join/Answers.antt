use Rattle.std.proofs.Common.{◌≡◌, true, false, List, ◌++◌, reverse, sym, ap, subst, ◌∙◌}
use Rattle.cls_kinds.specs.declared.kind.Kind.{Kind}
use Rattle.cls_kinds.specs.declared.stacks.Node.{Node}
use Rattle.cls_kinds.specs.Numbers.{is_raised, joined_all}
use Rattle.cls_kinds.specs.Stacks.{stack_at, stacks_of}
use Rattle.cls_kinds.proofs.Joining.{raised_not, raised_not_second}
use Rattle.cls_kinds.proofs.Stacking.{grows_keeps, higher_of}
use Rattle.cls_kinds.proofs.stacks.Stacks.join.Goals as goal

pub returns-then-not-raises_stack-clause-joined : goal.returns-then-not-raises_stack-clause-joined
returns-then-not-raises_stack-clause-joined c =
    let kept : is_raised (stack_at c.args.self.now c.args.first) (stack_at c.args.self.now c.args.second) ≡ false =
    subst (λ s. is_raised (stack_at s c.args.first) (stack_at s c.args.second) ≡ false) c.self.view_is
    (ap (λ (ns : List Node). is_raised (stack_at (stacks_of ns) c.args.first) (stack_at (stacks_of ns) c.args.second))
    (sym c.as_slice.ensures.value)
    ∙ sym c.raises_stack.ensures ∙ c.if-not-raises_stack.true) in
    sym (raised_not (stack_at c.args.self.now c.args.first) (stack_at c.args.self.now c.args.second) c.requires.even kept)

pub returns-then-not-raises_stack-2-clause-joined : goal.returns-then-not-raises_stack-2-clause-joined
returns-then-not-raises_stack-2-clause-joined c =
    let kept : is_raised (stack_at c.args.self.now c.args.second) (stack_at c.args.self.now c.args.first) ≡ false =
    subst (λ s. is_raised (stack_at s c.args.second) (stack_at s c.args.first) ≡ false) c.self.view_is
    (ap (λ (ns : List Node). is_raised (stack_at (stacks_of ns) c.args.second) (stack_at (stacks_of ns) c.args.first))
    (sym c.as_slice-3.ensures.value)
    ∙ sym c.raises_stack-2.ensures ∙ c.if-not-raises_stack-2.true) in
    ap (λ s. stack_at s c.args.second) c.note_raised.ensures
    ∙ sym (raised_not_second (stack_at c.args.self.now c.args.first) (stack_at c.args.self.now c.args.second) c.requires.even kept)

pub note_raised-requires-2-clause-higher : goal.note_raised-requires-2-clause-higher
note_raised-requires-2-clause-higher c =
    let old : List (List Kind) = c.args.self.now in
    let below = c.in_ok-joint.joint.below in
    let kinds : List Kind = c.in_ok-joint.joint.kinds.items in
    let raised : is_raised (stack_at old c.args.first) (stack_at old c.args.second) ≡ true =
    subst (λ s. is_raised (stack_at s c.args.first) (stack_at s c.args.second) ≡ true) c.self.view_is
    (ap (λ (ns : List Node). is_raised (stack_at (stacks_of ns) c.args.first) (stack_at (stacks_of ns) c.args.second))
    (sym c.as_slice.ensures.value)
    ∙ sym c.raises_stack.ensures ∙ c.if-not-raises_stack.false) in
    let joint : stack_at old below ++ reverse kinds ≡ joined_all (stack_at old c.args.first) (stack_at old c.args.second) =
    subst (λ s. stack_at s below ++ reverse kinds ≡ joined_all (stack_at s c.args.first) (stack_at s c.args.second)) c.self.view_is
    (subst (λ (ns : List Node). stack_at (stacks_of ns) below ++ reverse kinds
    ≡ joined_all (stack_at (stacks_of ns) c.args.first) (stack_at (stacks_of ns) c.args.second))
    c.as_slice-5.ensures.value c.in_ok-joint.ensures.joined) in
    higher_of _ _ (stack_at old c.args.first) (stack_at old c.args.second)
    (grows_keeps old c.add_all.new.self c.args.first c.in_ok-joined.ensures.grows c.requires.first)
    (c.in_ok-joined.ensures.made ∙ ap (λ (l : List Kind). stack_at old below ++ reverse l) c.as_slice-7.ensures.value ∙ joint)
    raised
