use Rattle.std.proofs.Common.{◌≡◌, drop, map, option_map}
use Rattle.std.specs.List.{list_any}
use Rattle.ts_tree.specs.Calls.{may_end}
use Rattle.use_elements.specs.Mappings.{typestate_or_end}
use Rattle.use_flow.proofs.exits.branch_ends.Given as goal

abbrev pub invariant-loop-branch : goal.invariant-loop-branch
invariant-loop-branch l =
    list_any (may_end (typestate_or_end (option_map (λ t. t.now) l.typestate))) (map (λ b. b.to) (drop l.branch-index l.branches))
    ≡ list_any (may_end (typestate_or_end (option_map (λ t. t.now) l.typestate))) (map (λ b. b.to) l.branches)
