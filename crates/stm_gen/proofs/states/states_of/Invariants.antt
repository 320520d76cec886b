use Rattle.std.proofs.Common.{◌≡◌, ◌++◌, map, drop}
use Rattle.scr_tree.specs.Local.{tree_of}
use Rattle.scr_trace.specs.inner.View.{edges_of, graph_of_work, work_of}
use Rattle.ts_tree.specs.View.{state_of}
use Rattle.stm_gen.specs.inner.States.{states_from}
use Rattle.stm_gen.proofs.states.states_of.Given as goal

-- the states so far and those that are left are all
abbrev pub invariant-loop-number : goal.invariant-loop-number
invariant-loop-number l =
    map state_of l.states.items ++ states_from (tree_of l.local).me l.number
    (map (edges_of (work_of l.laid)) (drop l.number (work_of l.laid).cells))
    ≡ states_from (tree_of l.local).me 0 (graph_of_work (work_of l.laid)).states
