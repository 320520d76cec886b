-- The law: sources whose core some tables solve keep to their typestates.
use Rattle.std.specs.Prelude.{◌≡◌, ◌≢◌, ℕ, List, Bool, None}
use Rattle.mg_text.specs.Call.{Name}
use Rattle.mg_text.specs.declared.event.Event.{Event}
use Rattle.jv_values.specs.Alike.{Prefix}
use Rattle.jv_values.specs.Values.{Inputs, Ended, Done, Null, Wrong}
use Rattle.jv_meaning.specs.Calls.{Follows, Finished}
use Rattle.jv_meaning.specs.Meaning.{mean}
use Rattle.jv_meaning.specs.Names.{main_of}
use Rattle.jv_rules.specs.Faults.{IsWellTyped}
use Rattle.jv_rules.specs.Program.{Program}
use Rattle.jv_rules.specs.Shape.{IsShaped}
use Rattle.jv_core.specs.Tree as Core
use Rattle.jv_names.specs.Resolves.{Resolves}
use Rattle.use_rules.specs.Keys.{Tables, AreReached}
use Rattle.use_rules.specs.Tables.{Solves}

-- What a run of a program of files and typestates, with its events and its finish, keeps to.
pub record KeepsTo (program : Program) (run : Ended) : Type 0 where
  -- no null is dereferenced
  pub no_null : run.finish ≢ Null
  -- each step has a case
  pub never_wrong : run.finish ≢ Wrong
  -- at each moment the calls of each object lead along its class's typestate, where the last may still be open
  pub follows : (so_far : List Event) → Prefix so_far run.events → Follows program.files program.typestates so_far
  -- where `main` returned no call is open, and the calls of each object lead to the end of its class's typestate, or to a state that
  -- is marked drop
  pub finished : run.finish ≡ Done → Finished program.files program.typestates run.events

-- For each class with `main`, whatever the other roles sent and whatever the budget.
abbrev pub SourcesKeepTypestates : Type 0
SourcesKeepTypestates = (program : Program) (core : Core.Program) → IsWellTyped program → IsShaped program → Resolves program core →
    (reached : List (List Bool)) → AreReached core reached → (tables : Tables) → Solves core reached tables →
    (class : Name) → main_of program.files class ≢ None → (inputs : Inputs) (budget : ℕ) →
    KeepsTo program (mean program.files class inputs budget)
