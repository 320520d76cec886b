-- Where the machine comes to behind the code of a statement.
use Rattle.std.specs.Prelude.{◌≡◌, ℕ, List, [], length, Option, Some, None, slice_get}
use Rattle.jv_values.specs.Values.{Value, Row, Inputs, Lives}
use Rattle.jv_values.specs.Statements.{Completion, Normal, Breaks, Continues, Returns}
use Rattle.jv_core.specs.declared.program.CoreType.{CoreType}
use Rattle.jv_core.specs.Tree.{Method, Program}
use Rattle.jv_core.specs.Lookup.{IsInstance}
use Rattle.vm_model.specs.declared.value.Value.{Value as Held}
use Rattle.vm_model.specs.Program as linked
use Rattle.gen_rules.specs.Symbolic.{Instr, return, return_value}
use Rattle.gen_rules.specs.Locals.{first_local}
use Rattle.gen_rules.specs.Around.{Around, break_to, continue_to}
use Rattle.gen_rules.specs.Frames.{max_locals}
use Rattle.gen_sound.specs.Following.{Moment}
use Rattle.gen_sound.specs.Related.{Running, flat_given, Laid, LaidObject}
use Rattle.gen_sound.specs.Arriving.{Arrives, Jumps}

-- the locals of a method's frame hold the variables of a row, and the object on which the method runs
pub record HoldsRow (m : Method) (this : Option ℕ) (row : Row ℕ) (locals : List (Option Held)) : Type 0 where
  pub many : length locals ≡ max_locals m
  pub laid : Laid (first_local m.kind) row locals
  pub object : IsInstance m.kind → LaidObject this locals

-- the instruction that returns a value of this type, or none
abbrev pub return_of : CoreType → Option Value → Instr
return_of type None = return
return_of type (Some v) = return_value type

-- a core, its linked program, the messages that the others sent, the number of the role that runs, its frame, the method whose code
-- runs in it, and the object on which it runs
module _ (p : Program) (program : linked.Program) (inputs : Inputs) (me : ℕ) (r : Running) (m : Method) (code : List Instr)
    (this : Option ℕ) where
  -- the machine comes to a place between statements, where no operands are, with the meaning's state
  pub record Stands (place : ℕ) (c : Moment) (s : Lives ℕ) : Type 0 where
    pub locals : List (Option Held)
    pub row : HoldsRow m this s.locals locals
    pub arrives : Arrives p program inputs me r place [] locals c s.shared

  -- the same, in one step or more
  pub record Leaps (place : ℕ) (c : Moment) (s : Lives ℕ) : Type 0 where
    pub locals : List (Option Held)
    pub row : HoldsRow m this s.locals locals
    pub jumps : Jumps p program inputs me r place [] locals c s.shared

  -- the machine comes to an instruction that returns this
  pub record Returning (v : Option Value) (c : Moment) (s : Lives ℕ) : Type 0 where
    pub place : ℕ
    pub locals : List (Option Held)
    pub at : slice_get code place ≡ Some (return_of m.result v)
    pub arrives : Arrives p program inputs me r place (flat_given v) locals c s.shared

  -- A statement that completes normally leads behind its code, and an exit to where it leads. No `continue` of a core is without its loop.
  abbrev pub CompletesAt : List Around → (to : ℕ) → Moment → Completion ℕ → Lives ℕ → Type 0
  CompletesAt ts to c Normal s = Stands to c s
  CompletesAt ts to c (Breaks l) s = Leaps (break_to ts l) c s
  CompletesAt ts to c (Continues None) s = ⊥
  CompletesAt ts to c (Continues (Some l)) s = Leaps (continue_to ts l) c s
  CompletesAt ts to c (Returns v) s = Returning v c s
