-- What a resolved program means.
use Rattle.std.specs.Prelude.{◌≡◌, ◌≢◌, ℕ, List, None}
use Rattle.mg_text.specs.Call.{Name}
use Rattle.mg_text.specs.declared.event.Event.{Event}
use Rattle.jv_values.specs.Values.{Inputs, Wrong}
use Rattle.jv_meaning.specs.Meaning.{mean}
use Rattle.jv_meaning.specs.Names as source_names
use Rattle.jv_meaning.specs.Calls as on_source
use Rattle.jv_rules.specs.Program.{Program}
use Rattle.jv_core.specs.Tree as Core
use Rattle.jv_core.specs.Meaning.{main_of, cmean}
use Rattle.jv_core.specs.Calls as on_core
use Rattle.jv_names.specs.Resolves.{Resolves}

-- The core that stands for a program means the same, for each class, all messages and every budget, where its own meaning isn't Wrong.
-- For a class without `main`, where there is nothing to run, it always means the same.
abbrev pub MeansTheSame : Type 0
MeansTheSame = (program : Program) (core : Core.Program) → Resolves program core → (class : Name) (inputs : Inputs) (n : ℕ) →
    (main_of core class ≢ None → (cmean core class inputs n).finish ≢ Wrong) → mean program.files class inputs n ≡ cmean core class inputs n

-- A class has `main` on the program exactly where it has it on the core.
pub record SameMain (program : Program) (core : Core.Program) (class : Name) : Type 0 where
  pub none_here : main_of core class ≡ None → source_names.main_of program.files class ≡ None
  pub none_there : source_names.main_of program.files class ≡ None → main_of core class ≡ None

abbrev pub MainsAreTheSame : Type 0
MainsAreTheSame = (program : Program) (core : Core.Program) → Resolves program core → (class : Name) → SameMain program core class

-- What is allowed of events on the core is allowed of them on the program.
pub record SeenTheSame (program : Program) (core : Core.Program) (events : List Event) : Type 0 where
  pub follows : on_core.Follows core events → on_source.Follows program.files program.typestates events
  pub finished : on_core.Finished core events → on_source.Finished program.files program.typestates events

abbrev pub FollowsTheSame : Type 0
FollowsTheSame = (program : Program) (core : Core.Program) → Resolves program core → (events : List Event) → SeenTheSame program core events
