-- How the state of a meaning lies in the machine.
use Rattle.std.specs.Prelude.{◌≡◌, ◌+◌, ℕ, pos, List, [], ◌∷◌, length, map, Option, Some, None, unwrap_or}
use Rattle.std.specs.Prelude.{slice_get}
use Rattle.jv_values.specs.Values.{Value, Int, Truth, Text, Null, Object, Constant, Row, Instance, Shared}
use Rattle.jv_core.specs.Tree.{Program}
use Rattle.jv_core.specs.Lookup.{class_numbered}
use Rattle.vm_model.specs.declared.value.Value.{Value as Held}
use Rattle.vm_model.specs.declared.value.Value.TheVariants as held
use Rattle.vm_model.specs.Machine as machine
use Rattle.vm_model.specs.Machine.{Frame}
use Rattle.vm_model.specs.Messages.{Messages}
use Rattle.vm_model.specs.Step.{truth}
use Rattle.vm_model.specs.Program as linked
use Rattle.vm_model.specs.Links.{Outline}
use Rattle.vm_model.specs.Actions.{Action, Calling, Telling, Silent, Static, action}
use Rattle.cls_tree.specs.Pool.{Reference}
use Rattle.jv_core.specs.declared.program.MethodKind.{MethodKind}
use Rattle.jv_core.specs.declared.program.MethodKind.TheVariants as kinds
use Rattle.vm_model.specs.Step.{act_at, act_some}
use Rattle.jv_core.specs.Tree.{Method}
use Rattle.gen_rules.specs.Symbolic.{Instr, invokevirtual, invokespecial, invokestatic}
use Rattle.gen_rules.specs.Frames.{max_stack, max_locals}
use Rattle.gen_rules.specs.Members.{method_descriptor}
use Rattle.gen_rules.specs.Linked.{linked_operand}
use Rattle.gen_sound.specs.Following.{Moment}

-- truth values and constants of enums are ints in the machine
abbrev pub flat : Value → Held
flat (Int z) = held.Int z
flat (Truth b) = truth b
flat (Text text) = held.Text text
flat Null = held.Null
flat (Object o) = held.Object o
flat (Constant enum position) = held.Int (pos position)

-- what an expression leaves on the operands: nothing, where it calls a method without a result
abbrev pub flat_given : Option Value → List Held
flat_given None = []
flat_given (Some v) = flat v ∷ []

-- an object has the number of its class, and its fields in their order
abbrev pub object_in : Program → Instance → machine.Object
object_in p i = record { class = unwrap_or (class_numbered p i.class) 0; fields = map (λ e. flat e.1) i.fields }

abbrev pub heap_in : Program → List Instance → List machine.Object
heap_in p heap = map (object_in p) heap

-- the variables of a row stand in these locals, the innermost first, and the outermost in the local of this number
abbrev pub Laid : (first : ℕ) → Row ℕ → List (Option Held) → Type 0
Laid first [] locals = Unit {0}
Laid first (e ∷ row) locals = (slice_get locals (first + length row) ≡ Some (Some (flat e.1))) × Laid first row locals

-- code that runs on an object has it in local 0
abbrev pub LaidObject : Option ℕ → List (Option Held) → Type 0
LaidObject None locals = Unit {0}
LaidObject (Some o) locals = slice_get locals 0 ≡ Some (Some (held.Object o))

-- Moments.

-- what stays the same of a frame while its code runs: its class and method by their numbers in the linked program, the object
-- that tells of its call, and the frames that wait for it
pub record Running : Type 0 where
  pub class : ℕ
  pub method : ℕ
  pub told : Option ℕ
  pub callers : List Frame

-- the machine at a place of the running code, with these operands and locals, where the meaning has this state
abbrev pub moment : Program → Running → (place : ℕ) → List Held → List (Option Held) → Shared → Messages → Moment
moment p r place operands locals s q = record {
  machine = record {
    frame = record {
      class = r.class;
      method = r.method;
      place = place;
      locals = locals;
      operands = operands;
      told = r.told;
    };
    callers = r.callers;
    heap = heap_in p s.heap;
  };
  messages = q;
  events = s.events;
}

-- Code in the linked program.

-- what an instruction does, where these are the classes
abbrev pub action_of : List Outline → Instr → Option Action
action_of os i = action i.op (linked_operand os i.op i.operand)

-- the instruction that calls a method of this kind, and how it calls it; `main` isn't called
abbrev pub invoke : MethodKind → Reference → Instr
invoke kinds.Protocol r = invokevirtual r
invoke kinds.Helper r = invokespecial r
invoke _ r = invokestatic r

abbrev pub calling_of : MethodKind → Calling
calling_of kinds.Protocol = Telling
calling_of kinds.Helper = Silent
calling_of _ = Static

-- The code of a method runs: its frame is that of the method, and at each place stands what is linked of its instruction there.
pub record RunsCode (p : Program) (os : List Outline) (program : linked.Program) (me : ℕ) (r : Running) (m : Method) (code : List Instr)
    : Type 0 where
  pub method : linked.MethodOf
  pub at : linked.method_at program r.class r.method ≡ Some method
  pub stack : method.max_stack ≡ max_stack p m
  pub locals : method.max_locals ≡ max_locals m
  pub descriptor : method.descriptor ≡ method_descriptor p m
  pub does : (place : ℕ) (i : Instr) → slice_get code place ≡ Some i → (q : Messages) (state : machine.Machine) →
      act_at program q state me (slice_get method.code place) ≡ act_some program q state me (action_of os i)
