use Rattle.std.proofs.Common.{◌≡◌, ◌++◌, drop, flat_map, map}
use Rattle.use_rules.specs.Tables.{flow_of, all_failed, all_sights}
use Rattle.use_flow.specs.View.{tables_of, reached_of, sight_of}
use Rattle.use_verdict.proofs.met.meet.Given as goal

abbrev pub invariant-loop-context : goal.invariant-loop-context
invariant-loop-context l = record {
  failed : l.failed.items
      ++ flat_map (λ c. (flow_of l.core (reached_of l.tables) (tables_of l.tables) c).failed) (drop l.context-index l.contexts)
      ≡ l.initial.failed.items ++ all_failed l.core (reached_of l.tables) (tables_of l.tables);
  sights : map sight_of l.sights.items
      ++ flat_map (λ c. (flow_of l.core (reached_of l.tables) (tables_of l.tables) c).sights) (drop l.context-index l.contexts)
      ≡ map sight_of l.initial.sights.items ++ all_sights l.core (reached_of l.tables) (tables_of l.tables);
}
