-- What an instruction needs of the machine, and what is wrong where it isn't there.
use Rattle.std.specs.Prelude.{ℕ, ◌+◌, ◌-◌, List, [], ◌∷◌, ◌++◌, length, take, drop, map, Bool, true, false, Option, Some, None}
use Rattle.std.specs.Prelude.{if◌then◌else◌, nat_lt, ◌&&◌, ◌||◌, not, is_some, slice_get}
use Rattle.std.specs.Str.{bytes_eq}
use Rattle.mg_text.specs.Call.{Name}
use Rattle.mg_text.specs.declared.event.BadKind.{BadKind}
use Rattle.mg_text.specs.declared.event.BadKind.TheVariants as bad
use Rattle.vm_model.specs.declared.value.Value.{Value}
use Rattle.vm_model.specs.declared.value.Value.TheVariants as values
use Rattle.vm_model.specs.declared.linked.Built.{Built as BuiltIn}
use Rattle.vm_model.specs.declared.linked.Built.TheVariants as built
use Rattle.vm_model.specs.BuiltIns.{object_class, string_class, print_stream_class}
use Rattle.vm_model.specs.Program.{Program, FieldOf, MethodOf, class_name, method_at, field_at}
use Rattle.vm_model.specs.Types.{FieldType, Named, Texts, Signature, signature_of, type_of}
use Rattle.vm_model.specs.Machine.{Frame, Object, Machine}
use Rattle.vm_model.specs.Actions.{Sort, Number, Reference, Calling, Static, Action, Push, Load, Store, Pop, Double, Swap, Compute, Negate}
use Rattle.vm_model.specs.Actions.{Increase, IfZero, IfBoth, IfNull, Go, Switch, Return, Read, Write, Make, Call, Use}

-- what an operand or a local must be
pub data Want : Type 0 where
  Any : Want
  Sorted : Sort → Want
  Typed : FieldType → Want
  -- a returned value is of the opcode's sort and meets the type of the result
  Returned : Sort → Option FieldType → Want

abbrev pub object_name : Program → Option Object → Name
object_name p None = []
object_name p (Some o) = class_name p o.class

-- the class of an object, of a text and of the print stream
abbrev pub class_of_value : Program → List Object → Value → Name
class_of_value p heap (values.Object n) = object_name p (slice_get heap n)
class_of_value p heap (values.Text text) = string_class
class_of_value p heap values.Out = print_stream_class
class_of_value p heap _ = []

abbrev pub is_object : Value → Bool
is_object (values.Object n) = true
is_object values.Out = true
is_object _ = false

abbrev pub is_reference : Value → Bool
is_reference (values.Int value) = false
is_reference _ = true

abbrev pub kind_unless : Bool → Option BadKind
kind_unless b = if b then None else Some bad.Kind

-- an object or the print stream in place of one of another class, but for texts, is of a wrong class; everything else is of a wrong kind
abbrev pub misfit_class : Program → List Object → Name → Value → Option BadKind
misfit_class p heap name values.Null = None
misfit_class p heap name v =
    if is_reference v && (bytes_eq name object_class || bytes_eq name (class_of_value p heap v)) then None
    else if is_object v && not (bytes_eq name string_class) then Some bad.Member
    else Some bad.Kind

abbrev pub is_null : Value → Bool
is_null values.Null = true
is_null _ = false

-- why a value doesn't meet a type: ints meet int and boolean, and null alone is an array
abbrev pub misfit_type : Program → List Object → FieldType → Value → Option BadKind
misfit_type p heap (Named name) v = misfit_class p heap name v
misfit_type p heap Texts v = kind_unless (is_null v)
misfit_type p heap _ v = kind_unless (not (is_reference v))

abbrev pub misfit_sort : Sort → Value → Option BadKind
misfit_sort Number v = kind_unless (not (is_reference v))
misfit_sort Reference v = kind_unless (is_reference v)

abbrev pub first_of : Option BadKind → Option BadKind → Option BadKind
first_of None other = other
first_of (Some kind) other = Some kind

abbrev pub misfit_result : Program → List Object → Option FieldType → Value → Option BadKind
misfit_result p heap None v = None
misfit_result p heap (Some type) v = misfit_type p heap type v

abbrev pub misfit : Program → List Object → Want → Value → Option BadKind
misfit p heap Any v = None
misfit p heap (Sorted sort) v = misfit_sort sort v
misfit p heap (Typed type) v = misfit_type p heap type v
misfit p heap (Returned sort result) v = first_of (misfit_sort sort v) (misfit_result p heap result v)

abbrev pub misfits : Program → List Object → List Want → List Value → List (Option BadKind)
misfits p heap [] vs = []
misfits p heap (w ∷ ws) [] = []
misfits p heap (w ∷ ws) (v ∷ vs) = misfit p heap w v ∷ misfits p heap ws vs

-- What an instruction needs.
pub record Needs : Type 0 where
  -- the operands that it takes, the topmost last
  pub takes : List Want
  -- a local that it reads, and of what sort that must be
  pub reads : Option (ℕ × Sort)
  -- how many locals there must be, and how many there are
  pub locals : ℕ
  pub of_locals : ℕ
  -- whether a return is of the kind that the descriptor says
  pub returns : Bool
  -- how many operands stand behind it where it pushes, and how many may
  pub operands : ℕ
  pub max_stack : ℕ

-- the operands on top, as many as are taken, and those below them
abbrev pub on_top : ℕ → List Value → List Value
on_top n vs = drop (length vs - n) vs

abbrev pub below : ℕ → List Value → List Value
below n vs = take (length vs - n) vs

abbrev pub misfit_local : Sort → Option (Option Value) → Option BadKind
misfit_local sort None = None
misfit_local sort (Some None) = Some bad.Kind
misfit_local sort (Some (Some v)) = misfit_sort sort v

abbrev pub misfit_read : Option (ℕ × Sort) → List (Option Value) → Option BadKind
misfit_read None locals = None
misfit_read (Some r) locals = misfit_local r.1 (slice_get locals r.0)

abbrev pub is_kind : Option BadKind → Bool
is_kind (Some bad.Kind) = true
is_kind _ = false

abbrev pub is_member : Option BadKind → Bool
is_member (Some bad.Member) = true
is_member _ = false

abbrev pub some_of : (Option BadKind → Bool) → List (Option BadKind) → Bool
some_of test [] = false
some_of test (x ∷ xs) = test x || some_of test xs

-- what is wrong, tested in this order
abbrev pub wrong_by : Needs → Machine → List (Option BadKind) → Option BadKind
wrong_by n m found =
    if nat_lt (length m.frame.operands) (length n.takes) then Some bad.Underflow
    else if some_of is_kind found then Some bad.Kind
    else if nat_lt n.of_locals n.locals then Some bad.Local
    else if some_of is_member found then Some bad.Member
    else if not n.returns then Some bad.Return
    else if nat_lt n.max_stack n.operands then Some bad.Overflow
    else None

abbrev pub wrong : Program → Needs → Machine → Option BadKind
wrong p n m =
    wrong_by n m (misfit_read n.reads m.frame.locals ∷ misfits p m.heap n.takes (on_top (length n.takes) m.frame.operands))

abbrev pub max_stack_in : Option MethodOf → ℕ
max_stack_in None = 0
max_stack_in (Some method) = method.max_stack

abbrev pub max_locals_in : Option MethodOf → ℕ
max_locals_in None = 0
max_locals_in (Some method) = method.max_locals

abbrev pub descriptor_in : Option MethodOf → Name
descriptor_in None = []
descriptor_in (Some method) = method.descriptor

abbrev pub name_of_method : Option MethodOf → Name
name_of_method None = []
name_of_method (Some method) = method.name

abbrev pub params_in : Option Signature → List FieldType
params_in None = []
params_in (Some s) = s.params

abbrev pub result_in : Option Signature → Option FieldType
result_in None = None
result_in (Some s) = s.result

-- the method of a frame
abbrev pub method_of_frame : Program → Frame → Option MethodOf
method_of_frame p f = method_at p f.class f.method

-- it takes these, and gives so many
abbrev pub taking : Program → Machine → List Want → ℕ → Needs
taking p m takes gives = record {
  takes = takes;
  reads = None;
  locals = 0;
  of_locals = length m.frame.locals;
  returns = true;
  operands = length m.frame.operands - length takes + gives;
  max_stack = max_stack_in (method_of_frame p m.frame);
}

abbrev pub number : Want
number = Sorted Number

abbrev pub text : Want
text = Typed (Named string_class)

abbrev pub type_in : Option FieldOf → Want
type_in None = Any
type_in (Some f) = elim (type_of f.descriptor) [ None ↦ Any | Some type ↦ Typed type ]

abbrev pub is_sort : Option Sort → Option FieldType → Bool
is_sort None result = not (is_some result)
is_sort (Some sort) result = is_some result

-- what a return takes
abbrev pub returned : Option Sort → Option FieldType → List Want
returned None result = []
returned (Some sort) result = Returned sort result ∷ []

-- the frame that a value is returned to
abbrev pub returning : Program → List Frame → Option Sort → Needs → Needs
returning p [] sort n = record n { operands = 0; max_stack = 0 }
returning p (f ∷ fs) sort n = record n {
  operands = length f.operands + length (returned sort None);
  max_stack =
      max_stack_in (method_of_frame p f);
}

abbrev pub return_needs : Program → Machine → Option Sort → Option FieldType → Needs
return_needs p m sort result =
    returning p m.callers sort (record (taking p m (returned sort result) 0) { returns = is_sort sort result })

-- the object under the arguments, where there is one
abbrev pub receiver : Calling → Name → List Want
receiver Static class = []
receiver _ class = Typed (Named class) ∷ []

abbrev pub call_takes : Program → Calling → ℕ → Option MethodOf → List Want
call_takes p calling class method = receiver calling (class_name p class) ++ map Typed (params_in (signature_of (descriptor_in method)))

-- a call pushes nothing, and its arguments must fit the locals of the method that is called
abbrev pub call_needs : Program → Machine → List Want → Option MethodOf → Needs
call_needs p m takes method =
    record (taking p m takes 0) { locals = length takes; of_locals = max_locals_in method; operands = 0; max_stack = 0 }

-- what the members of the built-in classes take, and how many values they give
abbrev pub built_needs : Program → Machine → BuiltIn → Needs
built_needs p m built.Init = taking p m (Typed (Named object_class) ∷ []) 0
built_needs p m built.Concat = taking p m (text ∷ text ∷ []) 1
built_needs p m built.Equals = taking p m (text ∷ Typed (Named object_class) ∷ []) 1
built_needs p m built.ValueOfInt = taking p m (number ∷ []) 1
built_needs p m built.ValueOfTruth = taking p m (number ∷ []) 1
built_needs p m built.Out = taking p m [] 1
built_needs p m built.Println = taking p m (Typed (Named print_stream_class) ∷ text ∷ []) 0
built_needs p m built.Send = taking p m (text ∷ text ∷ []) 0
built_needs p m built.SendInt = taking p m (text ∷ text ∷ number ∷ []) 0
built_needs p m built.SendTruth = taking p m (text ∷ text ∷ number ∷ []) 0
built_needs p m built.SendText = taking p m (text ∷ text ∷ text ∷ []) 0
built_needs p m built.Look = taking p m (text ∷ []) 1
built_needs p m built.Take = taking p m (text ∷ text ∷ []) 0
built_needs p m built.TakeInt = taking p m (text ∷ text ∷ []) 1
built_needs p m built.TakeTruth = taking p m (text ∷ text ∷ []) 1
built_needs p m built.TakeText = taking p m (text ∷ text ∷ []) 1
built_needs p m built.Refuse = taking p m (text ∷ text ∷ []) 0

-- a line for each action
abbrev pub needs : Program → Machine → Action → Needs
needs p m (Push v) = taking p m [] 1
needs p m (Load sort local) = record (taking p m [] 1) { reads = Some (local, sort); locals = local + 1 }
needs p m (Store sort local) = record (taking p m (Sorted sort ∷ []) 0) { locals = local + 1 }
needs p m Pop = taking p m (Any ∷ []) 0
needs p m Double = taking p m (Any ∷ []) 2
needs p m Swap = taking p m (Any ∷ Any ∷ []) 2
needs p m (Compute operation) = taking p m (number ∷ number ∷ []) 1
needs p m Negate = taking p m (number ∷ []) 1
needs p m (Increase local value) = record (taking p m [] 0) { reads = Some (local, Number); locals = local + 1 }
needs p m (IfZero comparison target) = taking p m (number ∷ []) 0
needs p m (IfBoth comparison target) = taking p m (number ∷ number ∷ []) 0
needs p m (IfNull wanted target) = taking p m (Sorted Reference ∷ []) 0
needs p m (Go target) = taking p m [] 0
needs p m (Switch default low targets) = taking p m (number ∷ []) 0
needs p m (Return sort) = return_needs p m sort (result_in (signature_of (descriptor_in (method_of_frame p m.frame))))
needs p m (Read class field) = taking p m (Typed (Named (class_name p class)) ∷ []) 1
needs p m (Write class field) = taking p m (Typed (Named (class_name p class)) ∷ type_in (field_at p class field) ∷ []) 0
needs p m (Make class) = taking p m [] 1
needs p m (Call calling class method) = call_needs p m (call_takes p calling class (method_at p class method)) (method_at p class method)
needs p m (Use b) = built_needs p m b
