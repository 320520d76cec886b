use Rattle.use_flow.proofs.Placing.{distinct_at, offered_at, offered_past}
use Rattle.use_flow.proofs.targets.methods_at.Goals as goal

pub returns-in-Some-clause-distinct : goal.returns-in-Some-clause-distinct
returns-in-Some-clause-distinct c = distinct_at c.typestate.inside.states.items c.as_slice.result.now c.args.state c.as_slice.ensures.items
    c.in-Some.state.now c.as_slice-in-Some.result.now c.in-Some.ensures.lookup.3 c.as_slice-in-Some.ensures.items c.typestate.invariant

pub returns-in-Some-clause-offered : goal.returns-in-Some-clause-offered
returns-in-Some-clause-offered c = offered_at c.typestate.inside.states.items c.as_slice.result.now c.args.state c.as_slice.ensures.items
    c.in-Some.state.now c.as_slice-in-Some.result.now c.in-Some.ensures.lookup.3 c.as_slice-in-Some.ensures.items c.args.typestate.now
    c.typestate.inside.name c.typestate.view_is

pub returns-in-None-clause-offered : goal.returns-in-None-clause-offered
returns-in-None-clause-offered c = offered_past c.typestate.inside.states.items c.as_slice.result.now c.args.state c.as_slice.ensures.items
    c.args.typestate.now c.typestate.inside.name c.typestate.view_is c.in-None.ensures.lookup.3
