use Rattle.std.proofs.Common.{◌≡◌, drop, flat_map}
use Rattle.use_rules.specs.Tables.{flow_of, all_failed}
use Rattle.use_flow.specs.View.{tables_of, reached_of}
use Rattle.use_verdict.proofs.verdict.first_in.Given as goal

abbrev pub invariant-loop-context : goal.invariant-loop-context
invariant-loop-context l = all_failed l.core (reached_of l.tables) (tables_of l.tables)
    ≡ flat_map (λ c. (flow_of l.core (reached_of l.tables) (tables_of l.tables) c).failed) (drop l.context-index l.contexts)
