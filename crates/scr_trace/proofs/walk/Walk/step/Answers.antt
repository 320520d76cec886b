use Rattle.std.proofs.Common.{refl, subst, Option, None}
use Rattle.scr_trace.specs.declared.standing.Standing.{Standing}
use Rattle.scr_trace.specs.declared.walk.Walk.{Walk}
use Rattle.scr_trace.specs.Walking.{call_said}
use Rattle.scr_trace.specs.inner.Goes.{Goes, Taken}
use Rattle.scr_trace.proofs.Walks.{edge_steps, none_steps, takes, ends_traces}
use Rattle.scr_trace.proofs.walk.Walk.step.Goals as goal

pub returns-in-Some-clause-steps : goal.returns-in-Some-clause-steps
returns-in-Some-clause-steps c =
    let to : Walk = record c.args.self.now { standing = c.in-Some.standing } in
    let taken : Taken c.args.self.now (call_said c.args.call.now) c.in-Some.standing =
    subst (λ (o : Option Standing). Goes c.args.self.now (call_said c.args.call.now) o) c.in-Some.is c.in_ok-standing.ensures in
    λ tree position h. edge_steps tree c.args.self.now to position (call_said c.args.call.now) h taken refl refl

pub returns-in-Some-clause-taken : goal.returns-in-Some-clause-taken
returns-in-Some-clause-taken c =
    let to : Walk = record c.args.self.now { standing = c.in-Some.standing } in
    let taken : Taken c.args.self.now (call_said c.args.call.now) c.in-Some.standing =
    subst (λ (o : Option Standing). Goes c.args.self.now (call_said c.args.call.now) o) c.in-Some.is c.in_ok-standing.ensures in
    λ tree calls h. takes tree c.args.self.now to (call_said c.args.call.now) calls taken refl refl h

pub returns-in-None-clause-not_offered : goal.returns-in-None-clause-not_offered
returns-in-None-clause-not_offered c =
    let none : Goes c.args.self.now (call_said c.args.call.now) None =
    subst (λ (o : Option Standing). Goes c.args.self.now (call_said c.args.call.now) o) c.in-None.is c.in_ok-standing.ensures in
    λ e tree position h. none_steps tree c.args.self.now position (call_said c.args.call.now) none h

pub returns-in-None-clause-no_trace : goal.returns-in-None-clause-no_trace
returns-in-None-clause-no_trace c =
    let none : Goes c.args.self.now (call_said c.args.call.now) None =
    subst (λ (o : Option Standing). Goes c.args.self.now (call_said c.args.call.now) o) c.in-None.is c.in_ok-standing.ensures in
    λ e tree calls more h. ends_traces tree c.args.self.now (call_said c.args.call.now) calls more none h
