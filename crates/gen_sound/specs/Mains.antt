-- What is proved: runs of each class with a `main` (`MainsAgree`).
use Rattle.std.specs.Prelude.{◌≡◌, ℕ, List, [], Some, slice_get}
use Rattle.mg_text.specs.Call.{Name}
use Rattle.jv_values.specs.Values.{Inputs}
use Rattle.jv_core.specs.Tree.{Method, Program}
use Rattle.jv_core.specs.Conditions.{IsCore}
use Rattle.jv_core.specs.Meaning.{as_run, main_of, cmean}
use Rattle.vm_model.specs.Machine.{Machine}
use Rattle.vm_model.specs.Start.{IsStart}
use Rattle.vm_model.specs.Messages.{Messages}
use Rattle.vm_model.specs.Step.{step}
use Rattle.gen_rules.specs.Symbolic.{Instr}
use Rattle.gen_rules.specs.Templates.{IsCode}
use Rattle.gen_rules.specs.Classes.{Compiled, compiled, IsCompiled}
use Rattle.gen_rules.specs.Linked.{outlines_of, linked_program}
use Rattle.gen_links.specs.Files.{HasPlainNames}
use Rattle.gen_sound.specs.Related.{Running, RunsCode}
use Rattle.vm_world_law.specs.Meant.{Holds, RunsAsMeant}

-- a method of this class and of this number there, and its code
pub record StandsAs (p : Program) (all : List (List Compiled)) (class method : ℕ) (m : Method) (code : List Instr) : Type 0 where
  pub methods : List Compiled
  pub class_is : slice_get all class ≡ Some methods
  pub method_is : slice_get methods method ≡ Some (compiled p m code)
  pub is_code : IsCode p m code

-- In the linked program of a core each frame of such a class and method runs the code that the templates give: at each place stands
-- what is linked of the instruction there.
abbrev pub LinkedCodeRuns : Type 0
LinkedCodeRuns = (p : Program) → IsCore p → HasPlainNames p → (all : List (List Compiled)) → IsCompiled p all → (class method : ℕ)
    (m : Method) (code : List Instr) → StandsAs p all class method m code → (me : ℕ) (r : Running) → r.class ≡ class → r.method ≡ method →
    RunsCode p (outlines_of p p.classes all) (linked_program p all) me r m code

-- a class of the core has a `main`
pub record CoreHasMain (p : Program) (class : Name) : Type 0 where
  pub number : ℕ
  pub method : Method
  pub at : slice_get p.methods number ≡ Some method
  pub is : main_of p class ≡ Some (as_run p number method)

-- For each core whose names are plain and each of its classes with a `main`: on the linked program, with lists that hold what the
-- other roles sent, the run of the machine that starts at this `main` and the meaning agree, both ways.
abbrev pub MainsAgree : Type 0
MainsAgree = (p : Program) → IsCore p → HasPlainNames p → (all : List (List Compiled)) → IsCompiled p all →
    (class : Name) → CoreHasMain p class → (inputs : Inputs) (me : ℕ) (q : Messages) → Holds inputs q me [] → (start : Machine) →
    IsStart (linked_program p all) class start → RunsAsMeant (step (linked_program p all) me) start q (cmean p class inputs)
