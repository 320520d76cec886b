-- The flat code of a method beside its instructions, and steps after steps.
use Rattle.std.proofs.Common.{◌≡◌, ℕ, zero, suc, ◌+◌, ◌<◌, ◌≤◌, Bool, true, false}
use Rattle.std.proofs.Common.{List, [], ◌∷◌, length, Option, Some, None, refl, sym, ap, ◌∙◌}
use Rattle.std.proofs.Common.{subst, add-one}
use Rattle.std.specs.Prelude.{if◌then◌else◌, slice_get, IfSome}
use Rattle.std.specs.List.{AllZip}
use Rattle.std.proofs.lemmas.Option.{slice_get_within}
use Rattle.vm_model.specs.Program.{Program, Instr, method_at}
use Rattle.vm_model.specs.Machine.{Machine}
use Rattle.vm_model.specs.Actions.{Action, action}
use Rattle.vm_model.specs.Tests.{max_stack_in, method_of_frame}
use Rattle.vm_model.specs.Step.{code_in}
use Rattle.vm_frames.specs.Kept.{most}
use Rattle.cls_verify.specs.Typing.{AllTypable}
use Rattle.cls_verify.specs.Sound.{Sound}
use Rattle.cls_verify.proofs.Rightly.{stays_sound}
use Rattle.vm_flat.specs.declared.flat.Flat.{Flat}
use Rattle.vm_flat.specs.Flat.{IsFlatInstr, IsFlatMethod, StandsFor, action_of_flat}
use Rattle.vm_typed.specs.Alone.{StepAlone, StepsWithin, AllAlone}
use Rattle.vm_typed.specs.Next.{IsNext}
use Rattle.vm_typed.specs.Running.{RunsFlat, StepsTo}
use Rattle.vm_typed.proofs.Next.{nobody}
use Rattle.vm_typed.proofs.Called.{stands_for}

some_is : {A : Type 0} (x y : A) → Some x ≡ Some y → x ≡ y
some_is x y e = cc

-- what stands at the same place of two lists
at_place : {A B : Type 0} (R : A → B → Type 0) (xs : List A) (ys : List B) → AllZip R xs ys → (k : ℕ) (y : B) → slice_get ys k ≡ Some y →
    (x : A) × (slice_get xs k ≡ Some x) × R x y
at_place R [] [] h k y e = absurd (cc e)
at_place R [] (z ∷ ys) h k y e = absurd h
at_place R (x ∷ xs) [] h k y e = absurd h
at_place R (x ∷ xs) (z ∷ ys) h zero y e = (x, refl, subst (R x) (some_is z y e) h.0)
at_place R (x ∷ xs) (z ∷ ys) h (suc k) y e = at_place R xs ys h.1 k y e

module _ (p : Program) (m : Machine) (code : List Flat) (runs : RunsFlat p m code) where
  -- where the step stays in its method, that runs on
  pub kept_on : (m' : Machine) → StepsWithin p m m' true → StepsTo p m m' (Some code)
  kept_on m' h = (
    h.1,
    record {
      flat = runs.flat;
      is = runs.is;
      few = runs.few;
      stands = subst (StandsFor (Some runs.flat)) (λ i. method_at p (sym h.0.0 i) (sym h.0.1 i)) runs.stands;
    },
  )

  pub kept_so : (m' : Machine) (b : Bool) (o : Option (List Flat)) → o ≡ (if b then Some code else None) → StepsWithin p m m' b →
      StepsTo p m m' o
  kept_so m' true o e h = subst (StepsTo p m m') (sym e) (kept_on m' h)
  kept_so m' false o e h = subst (StepsTo p m m') (sym e) h

  module _ (sound : Sound p m) where
    is_flat : IsFlatMethod runs.flat sound.frame.method
    is_flat = stands_for runs.flat (method_of_frame p m.frame) sound.frame.method runs.stands sound.frame.at

    -- a method has room for as many operands as a state has
    pub room_kept : max_stack_in (method_of_frame p m.frame) ≤ most
    room_kept = subst (λ k. k ≤ most) (sym (ap max_stack_in sound.frame.at)) is_flat.room

    instr_here : (i : Instr) × (slice_get sound.frame.method.code m.frame.place ≡ Some i)
    instr_here =
        let t = sound.frame.typing.typed m.frame.place sound.frame.kinds sound.frame.here in (t.instr, t.there)

    flat_here : (f : Flat) × (slice_get code m.frame.place ≡ Some f) × IsFlatInstr f instr_here.0
    flat_here = subst (λ l. (f : Flat) × (slice_get l m.frame.place ≡ Some f) × IsFlatInstr f instr_here.0) (sym runs.is)
        (at_place IsFlatInstr runs.flat.code.items sound.frame.method.code is_flat.code m.frame.place instr_here.0 instr_here.1)

    pub place_within : m.frame.place < length code
    place_within = slice_get_within code m.frame.place flat_here.0 flat_here.1

    pub next_of : AllTypable p → (f : Flat) → slice_get code m.frame.place ≡ Some f → (a : Action) → action_of_flat f ≡ Some a →
        IsNext p m a
    next_of all f there a does =
        let same : flat_here.0 ≡ f = some_is flat_here.0 f (sym flat_here.1 ∙ there) in
        record {
          typable = all;
          sound = sound;
          instr = instr_here.0;
          there = ap (λ o. slice_get (code_in o) m.frame.place) sound.frame.at ∙ instr_here.1;
          acts = subst (λ o. IfSome o (λ a. action instr_here.0.op instr_here.0.args ≡ Some a)) (ap action_of_flat same ∙ does)
              flat_here.2;
        }

-- Steps after steps.
module _ (p : Program) (all : AllTypable p) where
  pub step_sound : (m n : Machine) → Sound p m → StepAlone p m n → Sound p n
  step_sound m n sound step = stays_sound p all 0 m n nobody nobody None sound (step 0 nobody)

pub steps_on : (p : Program) (m n k : Machine) (taken : ℕ) → AllAlone p m taken n → StepAlone p n k → AllAlone p m (taken + 1) k
steps_on p m n k taken steps step = subst (λ j. AllAlone p m j k) (sym (add-one taken)) (n, (steps, step))
