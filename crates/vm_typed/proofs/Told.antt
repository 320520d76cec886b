-- Steps of which an object tells.
use Rattle.std.proofs.Common.{◌≡◌, ℕ, ℤ, List, Option, Some, None, refl, sym, ◌∙◌}
use Rattle.std.specs.Bool.{OnTrue, OnFalse}
use Rattle.vm_model.specs.declared.value.Value.{Value}
use Rattle.vm_model.specs.Program.{Program, method_at}
use Rattle.vm_model.specs.Messages.{Messages}
use Rattle.vm_model.specs.Machine.{Machine}
use Rattle.vm_model.specs.Step.{step, returns, answer_of}
use Rattle.vm_frames.specs.Frames.{left_to}
use Rattle.vm_typed.specs.declared.telling.Telling.{Telling}
use Rattle.vm_typed.specs.declared.telling.Telling.TheVariants as tellings
use Rattle.vm_typed.specs.Telling.{StepTells, LeavesTelling}
use Rattle.vm_typed.proofs.Called.{left_telling}

-- a return tells what the frame tells that is left
pub told_so : (p : Program) (m new : Machine) (vs : List Value) (o : Option Telling) →
    ((me : ℕ) (q : Messages) → step p me m q ≡ returns q m vs m.callers) → LeavesTelling p m vs new o → StepTells p m new o
told_so p m new vs (Some telling) is h = record { there = h.0; steps = λ me q. is me q ∙ h.1 q }
told_so p m new vs None is h = h

pub leaves_telling : (p : Program) (m new : Machine) (vs : List Value) (object : ℕ) (answer : Option ℤ) →
    left_to m vs m.callers ≡ Some new → Some object ≡ m.frame.told → answer ≡ answer_of vs →
    LeavesTelling p m vs new (Some (tellings.Leave object answer))
leaves_telling p m new vs object answer left told is =
    (tt, λ q. left_telling p q m new vs m.callers object answer left (sym told) is)
