-- The names of a program's methods, by the numbers of kept texts.
use Rattle.std.specs.Prelude.{◌≡◌, ℕ, List, Option, Some, None, slice_get, get_or}
use Rattle.std.specs.List.{AllZip}
use Rattle.mg_text.specs.Call.{Name}
use Rattle.vm_model.specs.Program.{Program, ClassOf, MethodOf}
use Rattle.vm_typed.specs.declared.telling.Telling.{Telling}
use Rattle.vm_typed.specs.declared.telling.Telling.TheVariants as tellings
use Rattle.vm_events.specs.declared.numbered.Numbered.{Numbered}
use Rattle.vm_events.specs.declared.numbered.Numbered.TheVariants as numbered
use Rattle.vm_events.specs.Seen.{IsNumbered}
use Rattle.vm_world.specs.declared.names.ClassNames.{ClassNames}
use Rattle.vm_world.specs.declared.names.MethodNames.{MethodNames}

abbrev pub IsMethodName : List Name → ℕ → MethodOf → Type 0
IsMethodName texts n method = IsNumbered texts n method.name

-- these are the numbers of the names of a class's methods, one for one
abbrev pub AreClassNames : List Name → ClassNames → ClassOf → Type 0
AreClassNames texts names class = AllZip (IsMethodName texts) names.methods.items class.methods

-- and of each class of a program
abbrev pub AreNames : List Name → MethodNames → Program → Type 0
AreNames texts names p = AllZip (AreClassNames texts) names.classes.items p

-- the number that is kept of a method's name; 0 where there is none
abbrev pub number_in : Option ClassNames → (method : ℕ) → ℕ
number_in None method = 0
number_in (Some names) method = get_or names.methods.items method 0

abbrev pub number_at : MethodNames → (class method : ℕ) → ℕ
number_at names class method = number_in (slice_get names.classes.items class) method

-- what is told, with the number of the method's name
abbrev pub numbered_by : MethodNames → Telling → Numbered
numbered_by names (tellings.Enter object class method) = numbered.Enter object (number_at names class method)
numbered_by names (tellings.Leave object answer) = numbered.Leave object answer
