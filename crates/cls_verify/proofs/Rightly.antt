-- Nothing is wrong with the next instruction of a machine that fits its typings, since else the step would be bad.
use Rattle.std.proofs.Common.{◌≡◌, ℕ, List, [], length, Option, Some, None, refl, ap, subst, ◌∙◌, slice_get}
use Rattle.mg_text.specs.declared.event.BadKind.{BadKind}
use Rattle.mg_text.specs.declared.event.Ending.TheVariants as endings
use Rattle.vm_model.specs.Program.{Program, Instr}
use Rattle.vm_model.specs.Messages.{Messages}
use Rattle.vm_model.specs.Machine.{Machine, Stops}
use Rattle.vm_model.specs.Actions.{Action, action}
use Rattle.vm_model.specs.Tests.{method_of_frame, needs, wrong}
use Rattle.vm_model.specs.Step.{act, act_at, act_some, code_in, step, tested}
use Rattle.cls_verify.specs.Typing.{AllTypable}
use Rattle.cls_verify.specs.Sound.{Sound, IsWell}
use Rattle.cls_verify.specs.Courses.{NextIsRight, StartsSound, SoundIsRight, StaysSound}
use Rattle.cls_verify.proofs.Whole as whole

module _ (p : Program) (all : AllTypable p) (m : Machine) (sound : Sound p m) where
  nobody : Messages
  nobody = record { roles = []; lists = [] }

  bad_act : (a : Action) (kind : BadKind) → wrong p (needs p m a) m ≡ Some kind → act p nobody m 0 a ≡ Stops (endings.Bad kind)
  unfolding act
  bad_act a kind e = ap (tested p nobody m 0 a (length (needs p m a).takes)) e

  bad_step : (i : Instr) (a : Action) (kind : BadKind) → slice_get (code_in (method_of_frame p m.frame)) m.frame.place ≡ Some i →
      action i.op i.args ≡ Some a → wrong p (needs p m a) m ≡ Some kind → step p 0 m nobody ≡ Stops (endings.Bad kind)
  bad_step i a kind there does e = ap (act_at p nobody m 0) there ∙ ap (act_some p nobody m 0) does ∙ bad_act a kind e

  none_wrong : (i : Instr) (a : Action) → slice_get (code_in (method_of_frame p m.frame)) m.frame.place ≡ Some i →
      action i.op i.args ≡ Some a → (o : Option BadKind) → wrong p (needs p m a) m ≡ o → o ≡ None
  none_wrong i a there does None e = refl
  none_wrong i a there does (Some kind) e = absurd (whole.never p all 0 m nobody kind sound (bad_step i a kind there does e))

  next_is_right : NextIsRight p m
  next_is_right =
      let t = sound.frame.typing.typed m.frame.place sound.frame.kinds sound.frame.here in
      let there : slice_get (code_in (method_of_frame p m.frame)) m.frame.place ≡ Some t.instr =
      ap (λ o. slice_get (code_in o) m.frame.place) sound.frame.at ∙ t.there in
      record {
        instr = t.instr;
        there = there;
        action_is = t.action_is;
        acts = t.acts;
        right = none_wrong t.instr t.action_is there t.acts (wrong p (needs p m t.action_is) m) refl;
      }

pub starts_sound : StartsSound
starts_sound p all name start s = whole.start_is_sound p all name start s

pub sound_is_right : SoundIsRight
sound_is_right p all m sound = next_is_right p all m sound

pub stays_sound : StaysSound
stays_sound p all me m n q r e sound is = subst (IsWell p) is (whole.step_is_well p all q me m sound)
