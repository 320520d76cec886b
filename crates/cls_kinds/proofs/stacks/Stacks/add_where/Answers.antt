use Rattle.std.proofs.Common.{◌≡◌, ◌-◌, ◌<◌, List, [], ◌∷◌, ◌++◌, length, get_or, ap, ap₂, subst, ◌∙◌, arith}
use Rattle.cls_kinds.specs.declared.stacks.Node.{Node}
use Rattle.cls_kinds.specs.Stacks.{stack_at, stacks_of}
use Rattle.cls_kinds.proofs.Stacking.{stacks_length, list_at}
use Rattle.cls_kinds.proofs.stacks.Stacks.add_where.Goals as goal

pub returns-in-Some-clause-there : goal.returns-in-Some-clause-there
returns-in-Some-clause-there c =
    let l = stacks_length c.self.inside.nodes.items in
    let w = ap length c.as_slice.ensures.value in
    let h : c.in-Some.number < length (stacks_of c.self.inside.nodes.items) = omega (arith, l, w, c.in-Some.ensures.within.1) in
    subst (λ s. c.in-Some.number < length s) c.self.view_is h

pub returns-in-Some-clause-made : goal.returns-in-Some-clause-made
returns-in-Some-clause-made c =
    let nodes = c.self.inside.nodes.items in
    let l = stacks_length nodes in
    let w = ap length c.as_slice.ensures.value in
    let h : c.in-Some.number < length (stacks_of nodes) = omega (arith, l, w, c.in-Some.ensures.within.1) in
    let d : Node = record { kind = c.args.kind; below = 0; depth = 0 } in
    let same : ((get_or nodes (c.in-Some.number - 1) d).below ≡ c.args.below)
    × ((get_or nodes (c.in-Some.number - 1) d).kind ≡ c.args.kind) =
    subst (λ (ns : List Node). ((get_or ns (c.in-Some.number - 1) d).below ≡ c.args.below)
    × ((get_or ns (c.in-Some.number - 1) d).kind ≡ c.args.kind))
    c.as_slice.ensures.value (c.in-Some.ensures.same d) in
    subst (λ s. stack_at s c.in-Some.number ≡ stack_at s c.args.below ++ c.args.kind ∷ []) c.self.view_is
    (list_at nodes c.self.invariant.made c.in-Some.number d c.in-Some.ensures.within.0 h
    ∙ ap₂ (λ b k. stack_at (stacks_of nodes) b ++ k ∷ []) same.0 same.1)
