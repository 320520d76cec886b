use Rattle.std.proofs.Common.{◌≡◌, ◌++◌, drop, map}
use Rattle.jv_core.specs.View.{method_of}
use Rattle.use_rules.specs.Keys.{contexts_from, contexts_in}
use Rattle.use_flow.proofs.entered.contexts_by.Given as goal

abbrev pub invariant-loop-place : goal.invariant-loop-place
invariant-loop-place l =
    l.entered.contexts.items ++ contexts_from l.core l.reached l.place (map method_of (drop l.place l.methods)) ≡ contexts_in
    l.core l.reached
