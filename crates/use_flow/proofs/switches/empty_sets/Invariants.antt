use Rattle.std.proofs.Common.{◌≡◌, ◌++◌, drop, map}
use Rattle.mg_text.specs.declared.names.Name.{Name}
use Rattle.use_rules.specs.Elements.{none}
use Rattle.use_flow.proofs.switches.empty_sets.Given as goal

abbrev pub invariant-loop-constant : goal.invariant-loop-constant
invariant-loop-constant l = l.sets.items ++ map (λ (c : Name). none 0) (drop l._constant-index l.constants) ≡ map (λ (c : Name). none 0)
    l.constants
