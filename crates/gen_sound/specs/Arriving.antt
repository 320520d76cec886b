-- Where the machine comes to behind the code of an expression.
use Rattle.std.specs.Prelude.{ℕ, List, ◌++◌, Bool, true, false, Option}
use Rattle.jv_values.specs.Values.{Value, Shared, Inputs}
use Rattle.jv_core.specs.Tree.{Program}
use Rattle.vm_model.specs.declared.value.Value.{Value as Held}
use Rattle.vm_model.specs.Program as linked
use Rattle.vm_model.specs.Messages.{Messages}
use Rattle.vm_model.specs.Step.{step}
use Rattle.gen_sound.specs.Following.{Moment, Comes, Leads}
use Rattle.gen_sound.specs.Related.{Running, moment, flat_given}
use Rattle.vm_world_law.specs.Meant.{Holds}

-- a core, its linked program, the messages that the others sent, the number of the role that runs, and its frame
module _ (p : Program) (program : linked.Program) (inputs : Inputs) (me : ℕ) (r : Running) where
  -- the machine comes to a place, with these operands and locals and the meaning's state
  pub record Arrives (place : ℕ) (operands : List Held) (locals : List (Option Held)) (c : Moment) (s : Shared) : Type 0 where
    pub messages : Messages
    pub comes : Comes (step program me) c (moment p r place operands locals s messages)
    pub holds : Holds inputs messages me s.events

  -- the same, in one step or more
  pub record Jumps (place : ℕ) (operands : List Held) (locals : List (Option Held)) (c : Moment) (s : Shared) : Type 0 where
    pub messages : Messages
    pub leads : Leads (step program me) c (moment p r place operands locals s messages)
    pub holds : Holds inputs messages me s.events

  -- behind the code of a value, it lies on the operands
  abbrev pub ValueAt : (locals : List (Option Held)) → (to : ℕ) → (operands : List Held) → Moment → Option Value → Shared → Type 0
  ValueAt locals to operands c v s = Arrives to (operands ++ flat_given v) locals c s

  -- behind a jump where it is false
  abbrev pub UnlessAt : (locals : List (Option Held)) → (target to : ℕ) → (operands : List Held) → Moment → Bool → Shared → Type 0
  UnlessAt locals target to operands c true s = Arrives to operands locals c s
  UnlessAt locals target to operands c false s = Jumps target operands locals c s

  -- behind a jump where it is true
  abbrev pub WhenAt : (locals : List (Option Held)) → (target to : ℕ) → (operands : List Held) → Moment → Bool → Shared → Type 0
  WhenAt locals target to operands c true s = Jumps target operands locals c s
  WhenAt locals target to operands c false s = Arrives to operands locals c s
