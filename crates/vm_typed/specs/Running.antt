-- The flat code that runs, and steps between methods.
use Rattle.std.specs.Prelude.{◌≡◌, ◌<◌, ◌^◌, List, [], ◌∷◌, length, Bool, true, false, Option, Some, None, slice_get}
use Rattle.vm_model.specs.Program.{Program}
use Rattle.vm_model.specs.Machine.{Machine, Frame}
use Rattle.vm_model.specs.Tests.{method_of_frame}
use Rattle.vm_flat.specs.declared.flat.Flat.{Flat}
use Rattle.vm_flat.specs.declared.flat.Flat.TheVariants as flats
use Rattle.vm_flat.specs.declared.program.FlatMethod.{FlatMethod}
use Rattle.vm_flat.specs.declared.program.FlatProgram.{FlatProgram}
use Rattle.vm_flat.specs.Flat.{StandsFor, flat_method_at}
use Rattle.vm_typed.specs.Alone.{StepAlone}

-- this is the flat code of the method that runs
pub record RunsFlat (p : Program) (m : Machine) (code : List Flat) : Type 0 where
  pub flat : FlatMethod
  pub is : code ≡ flat.code.items
  pub few : length code < 2 ^ 32
  pub stands : StandsFor (Some flat) (method_of_frame p m.frame)

-- A step is taken alone to a machine in which this flat code runs; or nothing has changed.
abbrev pub StepsTo : Program → (m m' : Machine) → Option (List Flat) → Type 0
StepsTo p m m' (Some code) = StepAlone p m m' × RunsFlat p m' code
StepsTo p m m' None = m' ≡ m

-- the flat method stands for that of the nearest of the frames that wait
abbrev pub IsAwaited : Program → FlatMethod → List Frame → Type 0
IsAwaited p flat [] = ⊥
IsAwaited p flat (f ∷ fs) = StandsFor (Some flat) (method_of_frame p f)

-- an instruction is there, and more is said of it than that it is another one
abbrev pub has_form : Option Flat → Bool
has_form None = false
has_form (Some flats.Other) = false
has_form (Some _) = true

abbrev pub flat_code : Option FlatMethod → List Flat
flat_code None = []
flat_code (Some flat) = flat.code.items

-- the next instruction of a machine has a flat form
abbrev pub next_has_form : FlatProgram → Machine → Bool
next_has_form flat m = has_form (slice_get (flat_code (flat_method_at flat m.frame.class m.frame.method)) m.frame.place)
