use Rattle.std.proofs.Common.{◌≡◌, drop, map}
use Rattle.use_rules.specs.Elements.{element_of, marked}
use Rattle.use_flow.proofs.calling.mark_branches.Given as goal

abbrev pub invariant-loop-branch : goal.invariant-loop-branch
invariant-loop-branch l =
    marked (map element_of (map (λ b. b.to) (drop l.branch-index l.branches))) l.found ≡ marked
    (map element_of (map (λ b. b.to) l.branches)) l.initial.found
