use Rattle.std.proofs.Common.{◌≡◌, Some, refl, sym, subst, ◌∙◌}
use Rattle.vm_model.specs.Program.{method_at}
use Rattle.vm_model.specs.Machine.{Machine}
use Rattle.vm_session.specs.State.{state_of}
use Rattle.cls_verify.specs.Sound.{Sound}
use Rattle.vm_flat.specs.Flat.{StandsFor}
use Rattle.vm_typed.specs.Alone.{AllAlone}
use Rattle.vm_typed.specs.Running.{StepsTo}
use Rattle.vm_typed.proofs.Called.{stands_none}
use Rattle.vm_typed.proofs.Flatly.{step_sound, steps_on}
use Rattle.vm_typed.proofs.steps.steps_typed.Goals as goal

pub unreachable-requires : goal.unreachable-requires
unreachable-requires c =
    let p = c.args.linked.now in
    let m : Machine = state_of c.args.state.now in
    stands_none (method_at p c.class.result c.method.result) c.requires.sound.frame.method
    (rw c.in_default.is at (c.method_at.ensures.stands p c.requires.flat))
    ((λ i. method_at p (c.class.ensures i) (c.method.ensures i)) ∙ c.requires.sound.frame.at)

pub loop-taken-init : goal.loop-taken-init
loop-taken-init c =
    let p = c.args.linked.now in
    record {
      steps = refl;
      sound = c.requires.sound;
      runs = record {
        flat = c.in-Some.first.now;
        is = c.as_slice-code.ensures.items;
        few = c.as_slice-code.ensures.bound;
        stands = subst (StandsFor (Some c.in-Some.first.now)) (λ i. method_at p (c.class.ensures i) (c.method.ensures i))
            (rw c.in-Some.is at (c.method_at.ensures.stands p c.requires.flat));
      };
    }

pub loop-taken-preserved : goal.loop-taken-preserved
loop-taken-preserved c =
    let p = c.args.linked.now in
    let m : Machine = state_of c.loop-taken.state in
    let m' : Machine = state_of c.step.new.state in
    let h : StepsTo p m m' (Some c.in-Some-step.next.now) = rw c.in-Some-step.is at c.step.ensures in
    record {
      steps = steps_on p (state_of c.args.state.now) m m' c.loop-taken.taken c.loop-taken.invariant.steps h.0;
      sound = step_sound p c.requires.typable m m' c.loop-taken.invariant.sound h.0;
      runs = h.1;
    }

pub returns-in-None-clause-steps : goal.returns-in-None-clause-steps
returns-in-None-clause-steps c =
    let p = c.args.linked.now in
    let same : state_of c.step.new.state ≡ state_of c.loop-taken.state = rw c.in-None.is at c.step.ensures in
    subst (AllAlone p (state_of c.args.state.now) c.loop-taken.taken) (sym same) c.loop-taken.invariant.steps

pub returns-in-None-clause-sound : goal.returns-in-None-clause-sound
returns-in-None-clause-sound c =
    let p = c.args.linked.now in
    let same : state_of c.step.new.state ≡ state_of c.loop-taken.state = rw c.in-None.is at c.step.ensures in
    subst (Sound p) (sym same) c.loop-taken.invariant.sound
