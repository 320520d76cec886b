-- What a step does: first the tests, then the instruction, one line for each action.
use Rattle.std.specs.Prelude.{ℕ, zero, ◌+◌, ◌-◌, ℤ, pos, neg_ℤ, ◌+ℤ◌, List, [], ◌∷◌, ◌++◌, length, map, replicate, Bool, true, false, not}
use Rattle.std.specs.Prelude.{Option, Some, None, if◌then◌else◌, ◌==◌, slice_get, slice_set, codes}
use Rattle.std.specs.Str.{bytes_eq}
use Rattle.std.specs.Fmt.{signed_decimal}
use Rattle.mg_text.specs.Call.{Name}
use Rattle.mg_text.specs.declared.event.Event.{Event}
use Rattle.mg_text.specs.declared.event.Event.TheVariants as seen
use Rattle.mg_text.specs.declared.event.Sent.{Sent}
use Rattle.mg_text.specs.declared.event.Carried.{Carried}
use Rattle.mg_text.specs.declared.event.Carried.TheVariants as carried
use Rattle.mg_text.specs.declared.event.Ending.TheVariants as endings
use Rattle.mg_text.specs.declared.event.BadKind.{BadKind}
use Rattle.mg_text.specs.declared.event.BadKind.TheVariants as bad
use Rattle.vm_model.specs.declared.value.Value.{Value}
use Rattle.vm_model.specs.declared.value.Value.TheVariants as values
use Rattle.vm_model.specs.declared.linked.Built.{Built as BuiltIn}
use Rattle.vm_model.specs.declared.linked.Built.TheVariants as built
use Rattle.vm_model.specs.Program.{Program, Instr, FieldOf, MethodOf, fields_in, class_at, class_name, method_at}
use Rattle.vm_model.specs.Types.{FieldType, type_of}
use Rattle.vm_model.specs.Types as types
use Rattle.vm_model.specs.Messages.{Messages, on_way, with_list, sending, role_named}
use Rattle.vm_model.specs.Machine.{Frame, Object, Machine, Stepped, Went, Waits, Stops}
use Rattle.vm_model.specs.Arithmetic.{wrap, computed, compares, switched}
use Rattle.vm_model.specs.Actions.{Calling, Telling, Silent, Static, Operation, Comparison, Action, Push, Load, Store, Pop, Double, Swap}
use Rattle.vm_model.specs.Actions.{Compute, Negate, Increase, IfZero, IfBoth, IfNull, Go, Switch, Return, Read, Write, Make, Call, Use}
use Rattle.vm_model.specs.Actions.{action}
use Rattle.vm_model.specs.Tests.{needs, wrong, on_top, below, method_of_frame, max_locals_in, name_of_method, is_null}

abbrev pub broken : BadKind → Stepped
broken kind = Stops (endings.Bad kind)

-- the running frame at a place, with these operands
abbrev pub at_place : Machine → ℕ → List Value → Machine
at_place m place operands = record m { frame = record m.frame { place = place; operands = operands } }

-- at the next instruction
abbrev pub next : Machine → List Value → Machine
next m operands = at_place m (m.frame.place + 1) operands

abbrev pub goes : Messages → Machine → Stepped
goes q m = Went m q None

abbrev pub tells : Messages → Event → Machine → Stepped
tells q event m = Went m q (Some event)

abbrev pub with_local : Machine → ℕ → Value → Machine
with_local m local v = record m { frame = record m.frame { locals = slice_set m.frame.locals local (Some v) } }

abbrev pub pushed : Messages → Machine → List Value → Option (Option Value) → Stepped
pushed q m rest (Some (Some v)) = goes q (next m (rest ++ v ∷ []))
pushed q m rest _ = broken bad.Kind

abbrev pub increased : Messages → Machine → List Value → ℕ → ℤ → Option (Option Value) → Stepped
increased q m rest local by (Some (Some (values.Int x))) = goes q (next (with_local m local (values.Int (wrap (x +ℤ by)))) rest)
increased q m rest local by _ = broken bad.Kind

abbrev pub stored : Messages → Machine → ℕ → List Value → List Value → Stepped
stored q m local rest (v ∷ []) = goes q (next (with_local m local v) rest)
stored q m local rest _ = broken bad.Underflow

abbrev pub popped : Messages → Machine → List Value → List Value → Stepped
popped q m rest (v ∷ []) = goes q (next m rest)
popped q m rest _ = broken bad.Underflow

abbrev pub doubled : Messages → Machine → List Value → List Value → Stepped
doubled q m rest (v ∷ []) = goes q (next m (rest ++ v ∷ v ∷ []))
doubled q m rest _ = broken bad.Underflow

abbrev pub swapped : Messages → Machine → List Value → List Value → Stepped
swapped q m rest (v ∷ w ∷ []) = goes q (next m (rest ++ w ∷ v ∷ []))
swapped q m rest _ = broken bad.Underflow

abbrev pub computed_to : Messages → Machine → List Value → Option ℤ → Stepped
computed_to q m rest None = Stops endings.Zero
computed_to q m rest (Some z) = goes q (next m (rest ++ values.Int z ∷ []))

abbrev pub computes : Messages → Machine → Operation → List Value → List Value → Stepped
computes q m operation rest (values.Int x ∷ values.Int y ∷ []) = computed_to q m rest (computed operation x y)
computes q m operation rest _ = broken bad.Kind

abbrev pub negates : Messages → Machine → List Value → List Value → Stepped
negates q m rest (values.Int x ∷ []) = goes q (next m (rest ++ values.Int (wrap (neg_ℤ x)) ∷ []))
negates q m rest _ = broken bad.Kind

-- to the target where the test holds, else to the next instruction
abbrev pub branch : Messages → Machine → List Value → ℕ → Bool → Stepped
branch q m rest target test = goes q (at_place m (if test then target else m.frame.place + 1) rest)

abbrev pub on_zero : Messages → Machine → Comparison → ℕ → List Value → List Value → Stepped
on_zero q m comparison target rest (values.Int x ∷ []) = branch q m rest target (compares comparison x (pos 0))
on_zero q m comparison target rest _ = broken bad.Kind

abbrev pub on_both : Messages → Machine → Comparison → ℕ → List Value → List Value → Stepped
on_both q m comparison target rest (values.Int x ∷ values.Int y ∷ []) = branch q m rest target (compares comparison x y)
on_both q m comparison target rest _ = broken bad.Kind

abbrev pub same_truth : Bool → Bool → Bool
same_truth true b = b
same_truth false b = not b

abbrev pub on_null : Messages → Machine → Bool → ℕ → List Value → List Value → Stepped
on_null q m wanted target rest (v ∷ []) = branch q m rest target (same_truth wanted (is_null v))
on_null q m wanted target rest _ = broken bad.Underflow

abbrev pub switches : Messages → Machine → ℕ → ℤ → List ℕ → List Value → List Value → Stepped
switches q m default low targets rest (values.Int x ∷ []) = goes q (at_place m (switched default low targets x) rest)
switches q m default low targets rest _ = broken bad.Kind

-- what a protocol method that is left answers: an int, which may be a truth value or the position of a constant
abbrev pub answer_of : List Value → Option ℤ
answer_of (values.Int x ∷ []) = Some x
answer_of _ = None

abbrev pub left : Option ℕ → List Value → Option Event
left None vs = None
left (Some object) vs = Some (seen.Leave object (answer_of vs))

-- the frame below goes on with what is returned; the return of `main` ends the run
abbrev pub returns : Messages → Machine → List Value → List Frame → Stepped
returns q m vs [] = Stops endings.Done
returns q m vs (f ∷ fs) = Went (record m { frame = record f { operands = f.operands ++ vs }; callers = fs }) q (left m.frame.told vs)

abbrev pub reads_object : Messages → Machine → List Value → ℕ → Option Object → Stepped
reads_object q m rest field None = broken bad.Member
reads_object q m rest field (Some o) =
    elim (slice_get o.fields field) [ None ↦ broken bad.Member | Some v ↦ goes q (next m (rest ++ v ∷ [])) ]

abbrev pub reads : Messages → Machine → ℕ → List Value → List Value → Stepped
reads q m field rest (values.Object n ∷ []) = reads_object q m rest field (slice_get m.heap n)
reads q m field rest (values.Null ∷ []) = Stops endings.Null
reads q m field rest _ = broken bad.Member

abbrev pub writes_object : Messages → Machine → List Value → ℕ → ℕ → Value → Option Object → Stepped
writes_object q m rest n field v None = broken bad.Member
writes_object q m rest n field v (Some o) =
    goes q (next (record m { heap = slice_set m.heap n (record o { fields = slice_set o.fields field v }) }) rest)

abbrev pub writes : Messages → Machine → ℕ → List Value → List Value → Stepped
writes q m field rest (values.Object n ∷ v ∷ []) = writes_object q m rest n field v (slice_get m.heap n)
writes q m field rest (values.Null ∷ v ∷ []) = Stops endings.Null
writes q m field rest _ = broken bad.Member

-- a field of a new object holds 0, false or null
abbrev pub blank_of : Option FieldType → Value
blank_of (Some types.Int) = values.Int (pos 0)
blank_of (Some types.Truth) = values.Int (pos 0)
blank_of _ = values.Null

abbrev pub blank : FieldOf → Value
blank f = blank_of (type_of f.descriptor)

abbrev pub makes : Program → Messages → Machine → ℕ → List Value → Stepped
makes p q m class rest =
    tells q (seen.Made (length m.heap) (class_name p class))
    (next (record m { heap = m.heap ++ record { class = class; fields = map blank (fields_in (class_at p class)) } ∷ [] })
    (rest ++ values.Object (length m.heap) ∷ []))

-- the frame of a method: its arguments are the first locals, and the others are unset
abbrev pub entered : Program → ℕ → ℕ → List Value → Option ℕ → Frame
entered p class method args told = record {
  class = class;
  method = method;
  place = 0;
  locals = map Some args ++ replicate (max_locals_in (method_at p class method) - length args) None;
  operands = [];
  told = told;
}

-- it runs over its caller's frame, which goes on behind the call
abbrev pub calls_in : Program → Messages → Machine → ℕ → ℕ → List Value → List Value → Option ℕ → Option Event → Stepped
calls_in p q m class method rest args told event =
    Went (record m { frame = entered p class method args told; callers = (next m rest).frame ∷ m.callers }) q event

abbrev pub calls : Program → Messages → Machine → Calling → ℕ → ℕ → List Value → List Value → Stepped
calls p q m Static class method rest args = calls_in p q m class method rest args None None
calls p q m _ class method rest [] = broken bad.Underflow
calls p q m _ class method rest (values.Null ∷ args) = Stops endings.Null
calls p q m Telling class method rest (values.Object n ∷ args) =
    calls_in p q m class method rest (values.Object n ∷ args) (Some n) (Some (seen.Enter n (name_of_method (method_at p class method))))
calls p q m Silent class method rest (values.Object n ∷ args) = calls_in p q m class method rest (values.Object n ∷ args) None None
calls p q m _ class method rest (v ∷ args) = broken bad.Member

abbrev pub truth : Bool → Value
truth b = values.Int (if b then pos 1 else pos 0)

-- an int as a truth value
abbrev pub is_true : ℤ → Bool
is_true (pos zero) = false
is_true _ = true

abbrev pub truth_text : Bool → List ℕ
truth_text b = if b then codes "true" else codes "false"

abbrev pub same_text : List ℕ → Value → Bool
same_text text (values.Text other) = bytes_eq text other
same_text text _ = false

abbrev pub text_or_null : Value → List ℕ
text_or_null (values.Text text) = text
text_or_null _ = codes "null"

abbrev pub inits : Messages → Machine → List Value → List Value → Stepped
inits q m rest (values.Null ∷ []) = Stops endings.Null
inits q m rest (v ∷ []) = goes q (next m rest)
inits q m rest _ = broken bad.Underflow

abbrev pub joins : Messages → Machine → List Value → List Value → Stepped
joins q m rest (values.Text a ∷ values.Text b ∷ []) = goes q (next m (rest ++ values.Text (a ++ b) ∷ []))
joins q m rest (v ∷ w ∷ []) = Stops endings.Null
joins q m rest _ = broken bad.Underflow

abbrev pub equals : Messages → Machine → List Value → List Value → Stepped
equals q m rest (values.Text a ∷ v ∷ []) = goes q (next m (rest ++ truth (same_text a v) ∷ []))
equals q m rest (v ∷ w ∷ []) = Stops endings.Null
equals q m rest _ = broken bad.Underflow

abbrev pub shows_int : Messages → Machine → List Value → List Value → Stepped
shows_int q m rest (values.Int x ∷ []) = goes q (next m (rest ++ values.Text (signed_decimal x) ∷ []))
shows_int q m rest _ = broken bad.Kind

abbrev pub shows_truth : Messages → Machine → List Value → List Value → Stepped
shows_truth q m rest (values.Int x ∷ []) = goes q (next m (rest ++ values.Text (truth_text (is_true x)) ∷ []))
shows_truth q m rest _ = broken bad.Kind

abbrev pub prints : Messages → Machine → List Value → List Value → Stepped
prints q m rest (values.Out ∷ v ∷ []) = tells q (seen.Print (text_or_null v)) (next m rest)
prints q m rest (v ∷ w ∷ []) = Stops endings.Null
prints q m rest _ = broken bad.Underflow

-- another role of the run
abbrev pub other_role : ℕ → Option ℕ → Option ℕ
other_role me None = None
other_role me (Some peer) = if peer == me then None else Some peer

abbrev pub sends_to : Messages → Machine → ℕ → List Value → Name → Sent → Option ℕ → Stepped
sends_to q m me rest peer message None = Stops (endings.NoPeer peer)
sends_to q m me rest peer message (Some to) =
    Went (next m rest) (sending q me to message) (Some (seen.Send peer message.label message.payload))

abbrev pub sends : Messages → Machine → ℕ → List Value → Name → Name → Carried → Stepped
sends q m me rest peer label payload =
    sends_to q m me rest peer (record { label = label; payload = payload }) (other_role me (role_named q peer))

-- what a message carries, by the method that sends or takes it
pub data Payload : Type 0 where
  NoPayload : Payload
  IntPayload : Payload
  TruthPayload : Payload
  TextPayload : Payload

abbrev pub sends_args : Messages → Machine → ℕ → Payload → List Value → List Value → Stepped
sends_args q m me NoPayload rest (values.Text peer ∷ values.Text label ∷ []) = sends q m me rest peer label carried.Nothing
sends_args q m me NoPayload rest _ = Stops endings.Null
sends_args q m me IntPayload rest (values.Text peer ∷ values.Text label ∷ values.Int x ∷ []) = sends q m me rest peer label (carried.Int x)
sends_args q m me IntPayload rest _ = Stops endings.Null
sends_args q m me TruthPayload rest (values.Text peer ∷ values.Text label ∷ values.Int x ∷ []) =
    sends q m me rest peer label (carried.Truth (is_true x))
sends_args q m me TruthPayload rest _ = Stops endings.Null
sends_args q m me TextPayload rest (values.Text peer ∷ values.Text label ∷ values.Text text ∷ []) =
    sends q m me rest peer label (carried.Text text)
sends_args q m me TextPayload rest _ = Stops endings.Null

abbrev pub looks_at : Messages → Machine → List Value → Name → ℕ → List Sent → Stepped
looks_at q m rest peer from [] = Waits from
looks_at q m rest peer from (message ∷ more) =
    tells q (seen.Look peer message.label) (next m (rest ++ values.Text message.label ∷ []))

abbrev pub looks_from : Messages → Machine → ℕ → List Value → Name → Option ℕ → Stepped
looks_from q m me rest peer None = Stops (endings.NoPeer peer)
looks_from q m me rest peer (Some from) = looks_at q m rest peer from (on_way q from me)

abbrev pub looks : Messages → Machine → ℕ → List Value → List Value → Stepped
looks q m me rest (values.Text peer ∷ []) = looks_from q m me rest peer (other_role me (role_named q peer))
looks q m me rest _ = Stops endings.Null

-- what a taken message pushes, where it carries what is taken
abbrev pub taken_as : Payload → Carried → Option (List Value)
taken_as NoPayload carried.Nothing = Some []
taken_as IntPayload (carried.Int x) = Some (values.Int x ∷ [])
taken_as TruthPayload (carried.Truth b) = Some (truth b ∷ [])
taken_as TextPayload (carried.Text text) = Some (values.Text text ∷ [])
taken_as _ _ = None

-- the first message is taken where its label and what it carries are those that are wanted
abbrev pub takes_first : Messages → Machine → ℕ → List Value → Name → ℕ → Sent → List Sent → Option (List Value) → Stepped
takes_first q m me rest peer from message more None = Stops (endings.Mismatch peer message.label)
takes_first q m me rest peer from message more (Some vs) =
    Went (next m (rest ++ vs)) (with_list q from me more) (Some (seen.Take peer message.label message.payload))

abbrev pub takes_at : Messages → Machine → ℕ → Payload → List Value → Name → Name → ℕ → List Sent → Stepped
takes_at q m me carries rest peer label from [] = Waits from
takes_at q m me carries rest peer label from (message ∷ more) =
    takes_first q m me rest peer from message more (if bytes_eq message.label label then taken_as carries message.payload else None)

abbrev pub takes_from : Messages → Machine → ℕ → Payload → List Value → Name → Name → Option ℕ → Stepped
takes_from q m me carries rest peer label None = Stops (endings.NoPeer peer)
takes_from q m me carries rest peer label (Some from) = takes_at q m me carries rest peer label from (on_way q from me)

abbrev pub takes : Messages → Machine → ℕ → Payload → List Value → List Value → Stepped
takes q m me carries rest (values.Text peer ∷ values.Text label ∷ []) =
    takes_from q m me carries rest peer label (other_role me (role_named q peer))
takes q m me carries rest _ = Stops endings.Null

abbrev pub refuses_from : Name → Name → Option ℕ → Stepped
refuses_from peer found None = Stops (endings.NoPeer peer)
refuses_from peer found (Some from) = Stops (endings.Mismatch peer found)

abbrev pub refuses : Messages → ℕ → List Value → Stepped
refuses q me (values.Text peer ∷ values.Text found ∷ []) = refuses_from peer found (other_role me (role_named q peer))
refuses q me _ = Stops endings.Null

-- the members of the built-in classes, with the operands below the arguments and the arguments
abbrev pub uses : Messages → Machine → ℕ → List Value → List Value → BuiltIn → Stepped
uses q m me rest args built.Init = inits q m rest args
uses q m me rest args built.Concat = joins q m rest args
uses q m me rest args built.Equals = equals q m rest args
uses q m me rest args built.ValueOfInt = shows_int q m rest args
uses q m me rest args built.ValueOfTruth = shows_truth q m rest args
uses q m me rest args built.Out = goes q (next m (rest ++ values.Out ∷ []))
uses q m me rest args built.Println = prints q m rest args
uses q m me rest args built.Send = sends_args q m me NoPayload rest args
uses q m me rest args built.SendInt = sends_args q m me IntPayload rest args
uses q m me rest args built.SendTruth = sends_args q m me TruthPayload rest args
uses q m me rest args built.SendText = sends_args q m me TextPayload rest args
uses q m me rest args built.Look = looks q m me rest args
uses q m me rest args built.Take = takes q m me NoPayload rest args
uses q m me rest args built.TakeInt = takes q m me IntPayload rest args
uses q m me rest args built.TakeTruth = takes q m me TruthPayload rest args
uses q m me rest args built.TakeText = takes q m me TextPayload rest args
uses q m me rest args built.Refuse = refuses q me args

-- what an action does, with the operands below those that it takes, and those
abbrev pub acts : Program → Messages → Machine → ℕ → List Value → List Value → Action → Stepped
acts p q m me rest args (Push v) = goes q (next m (rest ++ v ∷ []))
acts p q m me rest args (Load sort local) = pushed q m rest (slice_get m.frame.locals local)
acts p q m me rest args (Store sort local) = stored q m local rest args
acts p q m me rest args Pop = popped q m rest args
acts p q m me rest args Double = doubled q m rest args
acts p q m me rest args Swap = swapped q m rest args
acts p q m me rest args (Compute operation) = computes q m operation rest args
acts p q m me rest args Negate = negates q m rest args
acts p q m me rest args (Increase local by) = increased q m rest local by (slice_get m.frame.locals local)
acts p q m me rest args (IfZero comparison target) = on_zero q m comparison target rest args
acts p q m me rest args (IfBoth comparison target) = on_both q m comparison target rest args
acts p q m me rest args (IfNull wanted target) = on_null q m wanted target rest args
acts p q m me rest args (Go target) = goes q (at_place m target rest)
acts p q m me rest args (Switch default low targets) = switches q m default low targets rest args
acts p q m me rest args (Return sort) = returns q m args m.callers
acts p q m me rest args (Read class field) = reads q m field rest args
acts p q m me rest args (Write class field) = writes q m field rest args
acts p q m me rest args (Make class) = makes p q m class rest
acts p q m me rest args (Call calling class method) = calls p q m calling class method rest args
acts p q m me rest args (Use b) = uses q m me rest args b

abbrev pub tested : Program → Messages → Machine → ℕ → Action → ℕ → Option BadKind → Stepped
tested p q m me a n (Some kind) = broken kind
tested p q m me a n None = acts p q m me (below n m.frame.operands) (on_top n m.frame.operands) a

-- the tests, and where all is right what the action does
unfoldable pub act : Program → Messages → Machine → ℕ → Action → Stepped
act p q m me a = tested p q m me a (length (needs p m a).takes) (wrong p (needs p m a) m)

abbrev pub act_some : Program → Messages → Machine → ℕ → Option Action → Stepped
act_some p q m me None = broken bad.FellOff
act_some p q m me (Some a) = act p q m me a

abbrev pub code_in : Option MethodOf → List Instr
code_in None = []
code_in (Some method) = method.code

abbrev pub act_at : Program → Messages → Machine → ℕ → Option Instr → Stepped
act_at p q m me None = broken bad.FellOff
act_at p q m me (Some i) = act_some p q m me (action i.op i.args)

-- what the next instruction of the role `me` does
abbrev pub step : Program → ℕ → Machine → Messages → Stepped
step p me m q = act_at p q m me (slice_get (code_in (method_of_frame p m.frame)) m.frame.place)
