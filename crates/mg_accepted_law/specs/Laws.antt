-- The law: the objects of the classes that are generated of accepted files do what their protocols say.
use Rattle.std.specs.Prelude.{◌≢◌, ℕ, List, None, Contains}
use Rattle.mg_text.specs.Call.{Name}
use Rattle.mg_text.specs.declared.event.Event.{Event}
use Rattle.scr_tree.specs.Tree.{LocalTree}
use Rattle.scr_tree.specs.Meaning.{protocol_of}
use Rattle.jv_values.specs.Alike.{Prefix}
use Rattle.jv_values.specs.Seen.{IsMade, told, open_told}
use Rattle.jv_values.specs.Values.{Inputs, Ended}
use Rattle.jv_meaning.specs.Calls.{calls}
use Rattle.jv_meaning.specs.Meaning.{mean}
use Rattle.jv_rules.specs.Program.{Program}
use Rattle.jv_core.specs.Tree as Core
use Rattle.jv_core.specs.Meaning.{main_of}
use Rattle.stm_acts.specs.Acts.{acts}
use Rattle.stm_acts.specs.Played.{role_class, Played}
use Rattle.mg_sources.specs.Files.{Source}
use Rattle.mg_sources.specs.Reading.{Protocol, Reads}
use Rattle.mg_accepted.specs.Accepted.{AreAccepted}

-- In a run of a program each object of the class of a protocol's role has, at each moment, made the steps that its calls stand for.
abbrev pub ObjectsPlay : Program → LocalTree → (run : Ended) → Type 0
ObjectsPlay program local run =
    (o : ℕ) → IsMade run.events o (role_class local.me) → (so_far : List Event) → Prefix so_far run.events →
    Played local.me (protocol_of local) (calls program.files (role_class local.me) o so_far) (open_told (told o so_far)) (acts o so_far)
    so_far run

-- For each protocol that one of the files spells and each class with `main`, whatever the other roles sent and whatever the budget.
abbrev pub AcceptedObjectsPlay : Type 0
AcceptedObjectsPlay = (files : List Source) (core : Core.Program) (accepted : AreAccepted files core) →
    (source : Source) (local : LocalTree) → Contains files source → Reads source (Protocol local) →
    (class : Name) → main_of core class ≢ None → (inputs : Inputs) (budget : ℕ) →
    ObjectsPlay accepted.have.program local (mean accepted.have.program.files class inputs budget)
