use Rattle.std.proofs.Common.{◌≡◌, ◌+◌, sym, subst, arith}
use Rattle.vm_model.specs.Machine.{Machine}
use Rattle.vm_session.specs.State.{state_of}
use Rattle.vm_step.specs.Alone.{AllAlone}
use Rattle.vm_step.proofs.Alike.{steps_and, steps_sound}
use Rattle.vm_step.proofs.typed.steps_typed.Goals as goal

pub loop-taken-preserved : goal.loop-taken-preserved
loop-taken-preserved c =
    let p = c.args.linked.now in
    let start : Machine = state_of c.args.state.now in
    let behind : Machine = state_of c.steps_typed-taken.new.state in
    let new : Machine = state_of c.steps_alone.new.state in
    let taken = c.loop-taken.taken + c.steps_typed-taken.result in
    let front : AllAlone p start taken behind =
    steps_and p start (state_of c.loop-taken.state) behind c.loop-taken.taken c.steps_typed-taken.result c.loop-taken.invariant.steps
    c.steps_typed-taken.ensures.steps in
    let one : c.steps_alone.result ≡ 1 = omega (arith, c.steps_alone.ensures.most, c.if-steps_alone-eq0.false) in
    let last : AllAlone p behind 1 new = subst (λ k. AllAlone p behind k new) one c.steps_alone.ensures.steps in
    record {
      most = omega (arith, c.loop-taken-test.true, c.steps_typed-taken.ensures.most, c.if-taken-most.false);
      steps = steps_and p start behind new taken 1 front last;
      sound = steps_sound p c.requires.typable behind new 1 c.steps_typed-taken.ensures.sound last;
    }

pub returns-then-taken-most-clause-steps : goal.returns-then-taken-most-clause-steps
returns-then-taken-most-clause-steps c =
    steps_and c.args.linked.now (state_of c.args.state.now) (state_of c.loop-taken.state) (state_of c.steps_typed-taken.new.state)
    c.loop-taken.taken c.steps_typed-taken.result c.loop-taken.invariant.steps c.steps_typed-taken.ensures.steps

pub returns-then-steps_alone-eq0-clause-steps : goal.returns-then-steps_alone-eq0-clause-steps
returns-then-steps_alone-eq0-clause-steps c =
    let p = c.args.linked.now in
    let start : Machine = state_of c.args.state.now in
    let behind : Machine = state_of c.steps_typed-taken.new.state in
    let new : Machine = state_of c.steps_alone.new.state in
    let same : new ≡ behind =
    subst (λ k. AllAlone p behind k new) c.if-steps_alone-eq0.true c.steps_alone.ensures.steps in
    subst (AllAlone p start (c.loop-taken.taken + c.steps_typed-taken.result)) (sym same)
    (steps_and p start (state_of c.loop-taken.state) behind c.loop-taken.taken c.steps_typed-taken.result c.loop-taken.invariant.steps
    c.steps_typed-taken.ensures.steps)
