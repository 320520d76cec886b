use Rattle.std.proofs.Common.{◌++◌, ◌+◌, ◌<◌, ◌∙◌, List, map, ap, drop, length, arith}
use Rattle.scr_tree.specs.Local.{tree_of}
use Rattle.scr_trace.specs.inner.View.{cell_of, edges_of, graph_of_work, work_of}
use Rattle.ts_tree.specs.declared.parts.State.{State}
use Rattle.ts_tree.specs.View.{state_of as kept_state}
use Rattle.stm_gen.specs.inner.States.{states_from}
use Rattle.stm_gen.proofs.Making.{one_more, state_steps}
use Rattle.stm_gen.proofs.states.states_of.Goals as goal

pub loop-number-preserved : goal.loop-number-preserved
loop-number-preserved c =
    let within : c.loop-number.number < length (work_of c.args.laid.now).cells =
    omega (arith, c.loop-number-test.true, c.len-number-end.ensures) in
    ap (λ (items : List State). map kept_state items ++ states_from (tree_of c.args.local.now).me (c.loop-number.number + 1)
    (map (edges_of (work_of c.args.laid.now)) (drop (c.loop-number.number + 1) (work_of c.args.laid.now).cells)))
    c.in_ok-push.ensures.ok
    ∙ one_more (tree_of c.args.local.now).me (work_of c.args.laid.now) (work_of c.args.laid.now).cells c.loop-number.number
    (cell_of c.in-Some.exits.now) c.loop-number.states.items c.in_ok-state.state
    (states_from (tree_of c.args.local.now).me 0 (graph_of_work (work_of c.args.laid.now)).states) within c.in-Some.ensures
    c.in_ok-state.ensures c.loop-number.invariant

pub returns-clause-made : goal.returns-clause-made
returns-clause-made c = grind (arith, state_steps)
