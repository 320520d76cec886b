use Rattle.std.proofs.Common.{◌≡◌, ℕ, ◌+◌, ◌<◌, ◌^◌, List, [], ◌∷◌, ◌++◌, length, sym, ap, subst, ◌∙◌, arith}
use Rattle.std.proofs.lemmas.List.{length_push}
use Rattle.cls_kinds.specs.declared.stacks.Node.{Node}
use Rattle.cls_kinds.specs.Stacks.{stack_at, stacks_of, AreNodes, AreRaised}
use Rattle.cls_kinds.proofs.Stacking.{stacks_length, stack_made, are_more, stacks_grow, raised_more_lists, raised_with_none}
use Rattle.cls_kinds.proofs.stacks.Stacks.add.Goals as goal

pub invariant_of-self-2 : goal.invariant_of-self-2
invariant_of-self-2 c =
    let nodes = c.self.inside.nodes.items in
    let few : length nodes + 1 < 2 ^ 32 = omega (arith, c.len-count.ensures, c.if-count-ge4294967294.false, c.self.inside.nodes.ok.0) in
    let within : c.args.below < length (stacks_of nodes) = subst (λ s. c.args.below < length s) (sym c.self.view_is) c.requires in
    let was : c.depth_of.result ≡ length (stack_at (stacks_of nodes) c.args.below) =
    c.depth_of.ensures ∙ ap (λ (ns : List Node). length (stack_at (stacks_of ns) c.args.below)) c.as_slice.ensures.value in
    let deep : c.in-Some.depth ≡ length (stack_at (stacks_of nodes) c.args.below) + 1 = omega (arith, was, c.in-Some.ensures) in
    let node : Node = record { kind = c.args.kind; below = c.args.below; depth = c.in-Some.depth } in
    record {
      made = subst AreNodes (sym c.in_ok-push-2.ensures.items) (are_more nodes node c.self.invariant.made few within deep);
      noted = subst (λ (ns : List Node). AreRaised (stacks_of ns) c.push.new.self.items) (sym c.in_ok-push-2.ensures.items)
          (subst (AreRaised (stacks_of (nodes ++ node ∷ []))) (sym c.in_ok-push.ensures.items)
          (raised_more_lists (stacks_of nodes) (stacks_of (nodes ++ node ∷ [])) (c.self.inside.raised.items ++ 0 ∷ []) (stacks_grow nodes node)
          (raised_with_none (stacks_of nodes) c.self.inside.raised.items c.self.invariant.noted)));
    }

pub returns-clause-there : goal.returns-clause-there
returns-clause-there c =
    let l = stacks_length c.push-2.new.self.items in
    let e : length c.push-2.new.self.items ≡ length c.self.inside.nodes.items + 1 =
    ap length c.in_ok-push-2.ensures.items
    ∙ length_push c.self.inside.nodes.items (record { kind = c.args.kind; below = c.args.below; depth = c.in-Some.depth }) in
    omega (arith, l, e, c.len-count.ensures, c.self.inside.nodes.ok.0)

pub returns-clause-made : goal.returns-clause-made
returns-clause-made c =
    let nodes = c.self.inside.nodes.items in
    let node : Node = record { kind = c.args.kind; below = c.args.below; depth = c.in-Some.depth } in
    let count : c.len-count.result ≡ length nodes = omega (arith, c.len-count.ensures, c.self.inside.nodes.ok.0) in
    ap (λ (ns : List Node). stack_at (stacks_of ns) (c.len-count.result + 1)) c.in_ok-push-2.ensures.items
    ∙ ap (λ (k : ℕ). stack_at (stacks_of (nodes ++ node ∷ [])) (k + 1)) count
    ∙ stack_made nodes node
    ∙ ap (λ s. stack_at s c.args.below ++ c.args.kind ∷ []) c.self.view_is
