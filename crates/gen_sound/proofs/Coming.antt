-- Mains beside which the methods are named that they may come to, and what is proved of them.
use Rattle.std.proofs.Common.{◌≡◌, ℕ, suc, List, [], Some}
use Rattle.std.specs.Prelude.{slice_get, Contains}
use Rattle.mg_text.specs.Call.{Name}
use Rattle.jv_values.specs.Values.{Inputs, Ended}
use Rattle.jv_core.specs.Tree.{Method, Program}
use Rattle.jv_core.specs.Conditions.{IsCore}
use Rattle.jv_core.specs.Meaning.{as_run, main_of, cmean}
use Rattle.vm_model.specs.Program as linked
use Rattle.vm_model.specs.Machine.{Machine}
use Rattle.vm_model.specs.Start.{IsStart}
use Rattle.vm_model.specs.Messages.{Messages}
use Rattle.vm_model.specs.Step.{step}
use Rattle.gen_rules.specs.Classes.{Compiled, IsCompiled}
use Rattle.gen_rules.specs.Linked.{linked_program}
use Rattle.gen_links.specs.Files.{HasPlainNames}
use Rattle.gen_sound.specs.Following.{Moment, EndsAlike}
use Rattle.gen_sound.specs.Begun.{begun}
use Rattle.vm_world_law.specs.Meant.{Holds, RunsAsMeant}
use Rattle.gen_sound.proofs.Plain.{ArePlain}

-- The machine that begins with the code of this `main` does what `main` means with a budget: it ends so, waits so, or has
-- these events and goes on for at least as many steps.
abbrev pub DoesWithin : (me : ℕ) (program : linked.Program) (budget : ℕ) → Moment → Ended → Type 0
DoesWithin me program budget start meant = EndsAlike (step program me) (suc budget) start meant.finish meant.events

-- the `main` of a class, and each method that it may call, is plain and calls none but these
pub record HasPlainMain (p : Program) (class : Name) : Type 0 where
  pub number : ℕ
  pub method : Method
  pub at : slice_get p.methods number ≡ Some method
  pub is : main_of p class ≡ Some (as_run p number method)
  pub may : List ℕ
  pub among : Contains may number
  pub plain : (n : ℕ) (m : Method) → Contains may n → slice_get p.methods n ≡ Some m → ArePlain may m.body

-- For each core whose names are plain and each of its classes whose `main` is plain: on the linked program, with lists that hold
-- what the other roles sent, the machine that starts at this `main` does with each budget what is meant.
abbrev pub PlainMainsRun : Type 0
PlainMainsRun = (p : Program) → IsCore p → HasPlainNames p → (all : List (List Compiled)) → IsCompiled p all →
    (class : Name) → HasPlainMain p class → (inputs : Inputs) (me : ℕ) (q : Messages) → Holds inputs q me [] → (start : Machine) →
    IsStart (linked_program p all) class start → (budget : ℕ) →
    DoesWithin me (linked_program p all) budget (begun start q) (cmean p class inputs budget)

-- The whole law for these classes: the run and the meaning agree, both ways.
abbrev pub PlainMainsAgree : Type 0
PlainMainsAgree = (p : Program) → IsCore p → HasPlainNames p → (all : List (List Compiled)) → IsCompiled p all →
    (class : Name) → HasPlainMain p class → (inputs : Inputs) (me : ℕ) (q : Messages) → Holds inputs q me [] → (start : Machine) →
    IsStart (linked_program p all) class start → RunsAsMeant (step (linked_program p all) me) start q (cmean p class inputs)
