-- What the program's faults say. Want of memory says nothing.
use Rattle.std.specs.Prelude.{◌≡◌, ℕ, List, Option, Some, None, Result, Ok, Err}
use Rattle.vm_model.specs.Program.{Args, Nothing, Text}
use Rattle.cls_tree.specs.Tree.{Class as File}
use Rattle.vm_model.specs.Links.{least, flaws, Flaw, DuplicateClass, UnknownClass, UnknownMember, BadDescriptor, NoCode}
use Rattle.vm_load.specs.declared.fault.LoadFault.{LoadFault}
use Rattle.vm_load.specs.declared.fault.LoadFault.TheVariants as faults

abbrev pub flaw_of : LoadFault → Option Flaw
flaw_of (faults.DuplicateClass name) = Some (DuplicateClass name)
flaw_of (faults.UnknownClass name) = Some (UnknownClass name)
flaw_of (faults.UnknownMember name) = Some (UnknownMember name)
flaw_of (faults.BadDescriptor name) = Some (BadDescriptor name)
flaw_of (faults.NoCode name) = Some (NoCode name)
flaw_of faults.Memory = None

abbrev pub number_of_fault : LoadFault → ℕ
number_of_fault (faults.DuplicateClass name) = 1
number_of_fault (faults.UnknownClass name) = 2
number_of_fault (faults.UnknownMember name) = 3
number_of_fault (faults.BadDescriptor name) = 4
number_of_fault (faults.NoCode name) = 5
number_of_fault faults.Memory = 6

-- this is the fault, unless memory ran out
abbrev pub IsFlaw : LoadFault → Flaw → Type 0
IsFlaw faults.Memory flaw = Unit {0}
IsFlaw fault flaw = flaw_of fault ≡ Some flaw

abbrev pub best_flaw : Option LoadFault → Option Flaw
best_flaw None = None
best_flaw (Some fault) = flaw_of fault

-- this is wrong, where something is, unless memory ran out
abbrev pub Tells : Result (Unit {0}) LoadFault → Option Flaw → Type 0
Tells (Ok a) wanted = wanted ≡ None
Tells (Err faults.Memory) wanted = Unit {0}
Tells (Err fault) wanted = wanted ≡ flaw_of fault

-- this was made, or this is wrong, unless memory ran out
abbrev pub Judges : {X Y : Type 0} → (X → Y) → Result X LoadFault → Result Y Flaw → Type 0
Judges view (Ok x) wanted = wanted ≡ Ok (view x)
Judges view (Err (faults.DuplicateClass name)) wanted = wanted ≡ Err (DuplicateClass name)
Judges view (Err (faults.UnknownClass name)) wanted = wanted ≡ Err (UnknownClass name)
Judges view (Err (faults.UnknownMember name)) wanted = wanted ≡ Err (UnknownMember name)
Judges view (Err (faults.BadDescriptor name)) wanted = wanted ≡ Err (BadDescriptor name)
Judges view (Err (faults.NoCode name)) wanted = wanted ≡ Err (NoCode name)
Judges view (Err faults.Memory) wanted = Unit {0}

-- what pushes a text that may be absent
abbrev pub pushed_text : Option (List ℕ) → Args
pushed_text None = Nothing
pushed_text (Some text) = Text text

-- this is the first flaw of the lowest number, unless memory ran out
abbrev pub IsLeast : LoadFault → List Flaw → Type 0
IsLeast faults.Memory fs = Unit {0}
IsLeast fault fs = least fs ≡ flaw_of fault

-- class files don't link, and why, unless memory ran out
abbrev pub IsRefused : LoadFault → List File → Type 0
IsRefused fault cs = IsLeast fault (flaws cs)
