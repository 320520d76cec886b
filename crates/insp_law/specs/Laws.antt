-- What is promised where no demand fails.
use Rattle.std.specs.Prelude.{◌≡◌, ◌⊎◌, ℕ, ◌<◌, Bool, true, false, List, [], ◌∷◌, Contains, Some, None}
use Rattle.std.specs.Prelude.{IsSome}
use Rattle.std.specs.List.{AllByRecursion}
use Rattle.mg_text.specs.Call.{Name, Call as CallOf}
use Rattle.ts_tree.specs.declared.parts.Branch.{Branch}
use Rattle.ts_tree.specs.declared.parts.TypeName.TheVariants as types
use Rattle.ts_tree.specs.Proper.{IsOffered}
use Rattle.ts_tree.specs.declared.parts.To.{To}
use Rattle.ts_tree.specs.Typestate.{ByAnswer, Method as Offer, Typestate}
use Rattle.ts_tree.specs.Calls.{initial, may_end, Path}
use Rattle.insp_rules.specs.Program.{Class, Bare as BareOf, Other, Null, Lost, Alias}
use Rattle.insp_rules.specs.Program as program
use Rattle.insp_rules.specs.Program.{Result, Instruction, Make, Call, CallOut, Keep, Return, Throw, Program, code_at, Shape, nth, first}
use Rattle.insp_rules.specs.Program.{Invocation, Does, Invoke, taken, names, is_protocol, class_of, result_of, is_called_otherwise}
use Rattle.insp_rules.specs.Program.{is_of_followed}
use Rattle.insp_rules.specs.Program.{locals_at, begun}
use Rattle.insp_rules.specs.Skeleton.{Value, Plain, Nil, Bit, Map, Constant, Ref, Again, Another, is_loose, is_followed, Thing, Frame}
use Rattle.insp_rules.specs.Skeleton.{State, frame}
use Rattle.insp_rules.specs.Skeleton.{state, values, result, begins, place, someone_has}
use Rattle.insp_rules.specs.Skeleton.{Step, Throws, IsNoCallIn, instruction_at, let_go_all}
use Rattle.insp_rules.specs.Frames.{Known, Bare, Group, Sight, StaysHere, unknown, seen_at, sign_asks}
use Rattle.insp_rules.specs.Reached.{Both, Context, Exit, Numbering, Inspected, IsRoot, Reached, Left, Found}
use Rattle.insp_rules.specs.Program.{Comparison, IfSign, CallIn, handlers_at}

-- what a value may be of which this is known
pub data Bears : BareOf → Value → Type 0 where
  other : {v : Value} → is_loose v ≡ true → Bears Other v
  lost : {v : Value} → is_loose v ≡ true → Bears Lost v
  bit : {b : Bool} → Bears (program.Bit b) (Bit b)
  null : Bears Null Nil
  again : {t : Typestate} {o : ℕ} → Bears (Alias t) (Again t o)
  another : {t : Typestate} → Bears (Alias t) (Another t)
  map : {m : ℕ} {class : Name} → Bears (program.Map m class) (Map m class)
  constant : {class label : Name} → Bears (program.Constant class label) (Constant class label)

-- an argument of a method to begin with
pub data Unheld : Known → Value → Type 0 where
  bare : {b : BareOf} {v : Value} → Bears b v → Unheld (Bare b) v

-- Methods to begin with are called back: by a method outside, by one of a protocol, when a class is first used. Where a call isn't
-- followed, a method outside also calls those that may be meant, with what it was handed. What they give back is taken by nobody in the
-- program.
pub data Interrupts (p : Program) (roots : List Context) : State → State → Type 0 where
  calls_back : {m at : ℕ} {s : Shape Value} {fs : List Frame} {h : ℕ → Thing} {n : ℕ} (i : Instruction) →
      instruction_at p h m at s ≡ Some i → IsNoCallIn i → (c : Context) → Contains roots c → IsRoot c → (args : List Value) →
      Both Unheld c.args args →
      Interrupts p roots (state (frame m at s ∷ fs) h n)
      (state (frame c.method 0 (begun values (locals_at p c.method) args) ∷ frame m at s ∷ fs) h n)
  calls_meant : {m at : ℕ} {s : Shape Value} {fs : List Frame} {h : ℕ → Thing} {n : ℕ} (v : Invocation) (method : ℕ) →
      instruction_at p h m at s ≡ Some (CallOut v) → Contains v.meant method →
      Interrupts p roots (state (frame m at s ∷ fs) h n)
      (state (frame method 0 (begun values (locals_at p method) (let_go_all (first (taken v) s.operands))) ∷ frame m at s ∷ fs) h n)
  goes_back : {m at m0 at0 : ℕ} {s s0 : Shape Value} {fs : List Frame} {h : ℕ → Thing} {n : ℕ} (words : ℕ) (i : Instruction) →
      instruction_at p h m at s ≡ Some (Return words) → instruction_at p h m0 at0 s0 ≡ Some i → IsNoCallIn i →
      Interrupts p roots (state (frame m at s ∷ frame m0 at0 s0 ∷ fs) h n) (state (frame m0 at0 s0 ∷ fs) h n)

abbrev pub Moves : Program → List Context → State → State → Type 0
Moves p roots s t = Step p s t ⊎ Interrupts p roots s t

pub data Runs (p : Program) (roots : List Context) (begin : State) : State → Type 0 where
  here : Runs p roots begin begin
  stepped : {s t : State} → Runs p roots begin s → Moves p roots s t → Runs p roots begin t
  threw : {s t : State} → Runs p roots begin s → Throws p s t → Runs p roots begin t

-- a run begins in a context to begin with, and no object was made
pub record Begins (p : Program) (roots : List Context) (s : State) : Type 0 where
  pub context : Context
  pub root : Contains roots context
  pub is_root : IsRoot context
  pub args : List Value
  pub unheld : Both Unheld context.args args
  pub things : ℕ → Thing
  pub is : s ≡ state (frame context.method 0 (begun values (locals_at p context.method) args) ∷ []) things 0

-- a call that answers is one of a method that answers with labels
abbrev pub Answered : Class → CallOf → Type 0
Answered c call = IsSome call.answer → (m : Offer) × (branches : List Branch) × IsOffered c.typestate.states m × (m.name ≡ call.method)
    × (m.target ≡ ByAnswer branches)

-- the calls of an object lead along its typestate: from its beginning, or, behind a throw that came upon it, from the state that is
-- named `thrown`; where there is none nothing was called
pub data IsRight (x : Thing) : Type 0 where
  leads : (to : To) → place x ≡ Some to → AllByRecursion (Answered x.of) x.calls → IsRight x
  broken : begins x.of x.came ≡ None → x.calls ≡ [] → IsRight x

-- the object may be left
pub data MayBeLeft (x : Thing) : Type 0 where
  ends : (to : To) → place x ≡ Some to → may_end x.of.typestate to ≡ true → MayBeLeft x
  broken : begins x.of x.came ≡ None → x.calls ≡ [] → MayBeLeft x

-- The frame that runs gives the object back.
pub record GivesBack (p : Program) (s : State) (o : ℕ) : Type 0 where
  pub method : ℕ
  pub at : ℕ
  pub shape : Shape Value
  pub others : List Frame
  pub words : ℕ
  pub is : s.stack ≡ frame method at shape ∷ others
  pub returns : instruction_at p s.things method at shape ≡ Some (Return words)
  pub gives : result words shape ≡ Ref o

-- No frame of the program waits for the one above these.
pub data NoneWaits (p : Program) (h : ℕ → Thing) : List Frame → Type 0 where
  last : NoneWaits p h []
  interrupted : {f : Frame} {fs : List Frame} (i : Instruction) → instruction_at p h f.method f.at f.shape ≡ Some i → IsNoCallIn i →
      NoneWaits p h (f ∷ fs)

-- what is handed out as an object of a class: null, an object in its initial state that no frame has, and for an interface something that
-- isn't followed
pub data IsHandedOut (h : ℕ → Thing) (fs : List Frame) (class : Class) : Value → Type 0 where
  null : IsHandedOut h fs class Nil
  new : {o : ℕ} → (h o).of.typestate ≡ class.typestate → someone_has o fs ≡ false →
      ((h o).null ≡ false → place (h o) ≡ Some (initial class.typestate)) → IsHandedOut h fs class (Ref o)
  other : {v : Value} → class.is_interface ≡ true → is_loose v ≡ true → IsHandedOut h fs class v

-- In each run, at each moment:
pub record IsSafe (p : Program) (roots : List Context) (s : State) : Type 0 where
  -- the calls of each object are a path of its typestate
  pub right : (o : ℕ) → o < s.next → IsRight (s.things o)
  -- calls by which a typestate goes on are on objects
  pub goes_on : (m at : ℕ) (shape : Shape Value) (fs : List Frame) (name : Name) (k : ℕ) (has : Result) → s.stack ≡ frame m at shape ∷ fs →
      instruction_at p s.things m at shape ≡ Some (Call name k has) → (o : ℕ) × (nth Plain shape.operands k ≡ Ref o)
  -- calls of protocols, by the class that they name, are on objects, and in a method of a class that is followed itself perhaps on
  -- something that isn't followed; so none is on a null that came from this code
  pub on_objects : (m at : ℕ) (shape : Shape Value) (fs : List Frame) (v : Invocation) → s.stack ≡ frame m at shape ∷ fs →
      code_at p m at ≡ Some (Invoke v) → v.has_receiver ≡ true → is_protocol v ≡ true →
      ((o : ℕ) × (nth Plain shape.operands v.words ≡ Ref o))
      ⊎ (is_of_followed p m ≡ true) × (is_loose (nth Plain shape.operands v.words) ≡ true)
  -- an object once more is called by methods alone that its typestate doesn't name
  pub on_again : (m at : ℕ) (shape : Shape Value) (fs : List Frame) (v : Invocation) (t : Typestate) (o : ℕ) →
      s.stack ≡ frame m at shape ∷ fs → code_at p m at ≡ Some (Invoke v) → v.has_receiver ≡ true →
      nth Plain shape.operands v.words ≡ Again t o → names t v.name ≡ false
  -- no object is handed out, kept or thrown
  pub hands_none : (m at : ℕ) (shape : Shape Value) (fs : List Frame) (i : Instruction) (k : ℕ) →
      s.stack ≡ frame m at shape ∷ fs → instruction_at p s.things m at shape ≡ Some i →
      (i ≡ Keep k) ⊎ (i ≡ Throw) × (k ≡ 1) ⊎ ((v : Invocation) × (i ≡ CallOut v) × (k ≡ v.words))
      ⊎ ((name : Name) × (has : Result) × (i ≡ Call name k has)) →
      AllByRecursion (λ v. is_followed v ≡ false) (first k shape.operands)
  -- an object on which a method outside is called isn't handed on
  pub stays : (m at : ℕ) (shape : Shape Value) (fs : List Frame) (v : Invocation) → s.stack ≡ frame m at shape ∷ fs →
      instruction_at p s.things m at shape ≡ Some (CallOut v) → v.has_receiver ≡ true →
      is_followed (nth Plain shape.operands v.words) ≡ true →
      StaysHere v
  -- what is given back to a call from outside isn't followed, where the result is of no followed class; by a method that may be called
  -- otherwise it is handed out as new, where it is of one
  pub gives_plain : (m at : ℕ) (shape : Shape Value) (fs : List Frame) (words : ℕ) → s.stack ≡ frame m at shape ∷ fs →
      instruction_at p s.things m at shape ≡ Some (Return words) → NoneWaits p s.things fs → class_of (result_of p m) ≡ None →
      is_followed (result words shape) ≡ false
  pub gives_new : (m at : ℕ) (shape : Shape Value) (fs : List Frame) (words : ℕ) (class : Class) → s.stack ≡ frame m at shape ∷ fs →
      instruction_at p s.things m at shape ≡ Some (Return words) → NoneWaits p s.things fs → is_called_otherwise p m ≡ true →
      class_of (result_of p m) ≡ Some class → IsHandedOut s.things fs class (result words shape)
  -- an object that no frame has behind a step, though one had it before, may be left, or it is what a method gives back that wasn't
  -- called by the program
  pub leaves : (t : State) → Moves p roots s t → (o : ℕ) → (t.things o).null ≡ false → someone_has o s.stack ≡ true →
      someone_has o t.stack ≡ false →
      MayBeLeft (t.things o) ⊎ GivesBack p s o

abbrev pub RunsAreSafe : Type 0
RunsAreSafe = (p : Program) (numbering : Numbering) (roots : List Context) → Inspected p numbering roots →
    (begin s : State) → Begins p roots begin → Runs p roots begin s → IsSafe p roots s

-- methods that answer with labels have a result of a named type
abbrev pub AnswersAreNamed : Typestate → Type 0
AnswersAreNamed t = (m : Offer) → IsOffered t.states m → (branches : List Branch) → m.target ≡ ByAnswer branches →
    (type : Name) × (m.result ≡ types.Named type)

-- The calls of an object that no throw came upon are a path of its typestate.
abbrev pub RightIsPath : Type 0
RightIsPath = (x : Thing) → IsRight x → x.came ≡ false → AnswersAreNamed x.of.typestate → Path x.of.typestate x.calls None

-- A frame of which this holds is reached.
abbrev pub Somewhere : (p : Program) (numbering : Numbering) (roots : List Context) → (Context → ℕ → Sight → Type 0) → Type 0
Somewhere p numbering roots P = (c : Context) × (at : ℕ) × (f : Sight) × Found p numbering roots (Reached c at f) × P c at f

-- Some program has no demand that fails, and this is reached in it:
pub record Example : Type 0 where
  pub program : Program
  pub numbering : Numbering
  pub roots : List Context
  pub are_roots : AllByRecursion IsRoot roots
  pub inspected : Inspected program numbering roots
  -- a followed call, out of which a throw is caught
  pub followed : Somewhere program numbering roots (λ c at f. (callee : ℕ) × (k : ℕ) × (words : ℕ) × (to : ℕ)
      × (seen_at program c.method at f ≡ Some (CallIn callee k words)) × Contains (handlers_at program c.method at) to)
  -- the end of a method that was handed an object
  pub left : (c : Context) × (e : Exit) × Found program numbering roots (Left c e) × (0 < c.held)
  -- a test of what an object answered
  pub asked : Somewhere program numbering roots (λ c at f. (compares : Comparison) × (to : ℕ) × (g : ℕ)
      × (seen_at program c.method at f ≡ Some (IfSign compares to))
      × (sign_asks compares (nth unknown f.shape.operands 0) ≡ Some g))
  -- an object that may be null
  pub perhaps_null : Somewhere program numbering roots (λ c at f. (g : ℕ) × (x : Group) × (f.groups g ≡ Some x) × (x.null ≡ true))
  -- a call that isn't followed and may mean a method of the program
  pub called_back : Somewhere program numbering roots (λ c at f. (v : Invocation) × (method : ℕ)
      × (seen_at program c.method at f ≡ Some (CallOut v)) × Contains v.meant method)
