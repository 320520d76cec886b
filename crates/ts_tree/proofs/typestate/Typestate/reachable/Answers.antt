use Rattle.std.proofs.Common.{arith}
use Rattle.std.proofs.lemmas.Grind.{common_steps}
use Rattle.ts_tree.proofs.Turns.{below_by, turn_by, start_by, end_by}
use Rattle.ts_tree.proofs.typestate.Typestate.reachable.Goals as goal

pub loop-state-init : goal.loop-state-init
loop-state-init c =
    start_by c.args.self.now c.self.inside.name c.self.inside.states.items c.as_slice-states.result.now c.in_ok-walk.walk c.visit.new.self
    c.initial.result
    c.self.view_is c.as_slice-states.ensures.items c.in_ok-walk.ensures c.initial.ensures c.in_ok-visit.ensures

pub bounds-states-state : goal.bounds-states-state
bounds-states-state c =
    below_by c.args.self.now c.self.inside.name c.self.inside.states.items c.as_slice-states.result.now c.loop-state.walk c.next.new.self
    c.in-Some.state
    c.self.view_is c.as_slice-states.ensures.items c.loop-state.invariant c.in-Some.ensures.next

pub visit_all-requires : goal.visit_all-requires
visit_all-requires c =
    (turn_by c.args.self.now c.self.inside.name c.self.inside.states.items c.as_slice-states.result.now c.as_slice.result.now
    c.loop-state.walk c.next.new.self c.in-Some.state c.index-states-state.result
    c.self.view_is c.self.invariant c.as_slice-states.ensures.items c.index-states-state.is c.as_slice.ensures.items c.loop-state.invariant
    c.in-Some.ensures.marked c.in-Some.ensures.next).within

pub loop-state-smaller : goal.loop-state-smaller
loop-state-smaller c =
    (turn_by c.args.self.now c.self.inside.name c.self.inside.states.items c.as_slice-states.result.now c.as_slice.result.now
    c.loop-state.walk c.next.new.self c.in-Some.state c.index-states-state.result
    c.self.view_is c.self.invariant c.as_slice-states.ensures.items c.index-states-state.is c.as_slice.ensures.items c.loop-state.invariant
    c.in-Some.ensures.marked c.in-Some.ensures.next).less
    c.visit_all.new.self c.in_ok-visit_all.ensures

pub loop-state-preserved : goal.loop-state-preserved
loop-state-preserved c =
    (turn_by c.args.self.now c.self.inside.name c.self.inside.states.items c.as_slice-states.result.now c.as_slice.result.now
    c.loop-state.walk c.next.new.self c.in-Some.state c.index-states-state.result
    c.self.view_is c.self.invariant c.as_slice-states.ensures.items c.index-states-state.is c.as_slice.ensures.items c.loop-state.invariant
    c.in-Some.ensures.marked c.in-Some.ensures.next).marking
    c.visit_all.new.self c.in_ok-visit_all.ensures

pub returns : goal.returns
returns c = end_by c.args.self.now c.loop-state.walk c.next.new.self c.into_marked.result c.loop-state.invariant c.in_default.ensures.marked
    c.in_default.ensures.next c.into_marked.ensures

pub visit-requires : goal.visit-requires
visit-requires c = grind (arith, common_steps)
