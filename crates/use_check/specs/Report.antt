-- The report: what each table of a class's objects holds, a line for each. First the fields, class by class, state by state of those that
-- calls
-- lead to; then, context by context, its parameters, its result, a helper's fields as it is entered and left, and its loops.
use Rattle.std.specs.Prelude.{◌≡◌, ℕ, suc, ◌+◌, Bool, true, false, List, [], ◌∷◌, ◌++◌, length, take, Some, None, slice_get, codes}
use Rattle.std.specs.Prelude.{if◌then◌else◌}
use Rattle.std.specs.List.{flat_map}
use Rattle.std.specs.Fmt.{decimal}
use Rattle.mg_text.specs.Call.{Name}
use Rattle.mg_sets.specs.Sets.{members}
use Rattle.ts_tree.specs.Typestate.{Typestate}
use Rattle.jv_core.specs.declared.program.CoreType.{CoreType}
use Rattle.jv_core.specs.declared.program.MethodKind.{MethodKind}
use Rattle.jv_core.specs.declared.program.MethodKind.TheVariants as kinds
use Rattle.jv_core.specs.Tree.{Class, Field, Slot, Loop, Method, Program}
use Rattle.jv_core.specs.Lookup.{text_at}
use Rattle.use_rules.specs.declared.element.Element.{Element}
use Rattle.use_rules.specs.declared.element.Element.TheVariants as elements
use Rattle.use_rules.specs.declared.key.Context.{Context}
use Rattle.use_rules.specs.declared.key.Context.TheVariants as contexts
use Rattle.use_rules.specs.declared.key.TableKey.{TableKey}
use Rattle.use_rules.specs.declared.key.TableKey.TheVariants as keys
use Rattle.use_rules.specs.Elements.{element_at}
use Rattle.use_rules.specs.Keys.{Tables, AreReached, typestate_of, reached_states, contexts_in, method_in, class_in}
use Rattle.use_rules.specs.Tables.{Least}

-- the name of a state
abbrev pub state_text : Typestate → (state : ℕ) → Name
state_text t q = elim (slice_get t.states q) [ None ↦ [] | Some s ↦ s.name ]

abbrev pub element_text : Typestate → Element → Name
element_text t elements.Null = codes "null"
element_text t elements.Moved = codes "moved"
element_text t elements.End = codes "end"
element_text t (elements.State q) = state_text t q

-- an element by its place, with a blank before it
abbrev pub member_text : Typestate → (element : ℕ) → Name
member_text t e = codes " " ++ element_text t (element_at e)

-- the elements of a set, or `-` where it has none, with a blank before each
abbrev pub set_text : Typestate → List ℕ → Name
set_text t [] = codes " -"
set_text t (e ∷ es) = flat_map (member_text t) (e ∷ es)

-- what each item gives by its number, from this one on
abbrev pub in_order : {A : Type 0} (line : ℕ → A → Name) (number : ℕ) → List A → Name
in_order line n [] = []
in_order line n (x ∷ xs) = line n x ++ in_order line (suc n) xs

-- it runs on an object of its class
abbrev pub is_instance : MethodKind → Bool
is_instance k = elim k [ kinds.Protocol ↦ true | kinds.Helper ↦ true | _ ↦ false ]

abbrev pub is_helper : MethodKind → Bool
is_helper k = elim k [ kinds.Helper ↦ true | _ ↦ false ]

-- a program, and the elements of its tables
pub record Usages : Type 0 where
  pub program : Program
  pub reached : List (List Bool)
  pub elements : TableKey → List ℕ

module _ (u : Usages) where
  abbrev pub class_text : (class : ℕ) → Name
  class_text c = elim (slice_get u.program.classes c) [ None ↦ [] | Some k ↦ text_at u.program k.name ]

  -- what a table of objects of a class has, up to the end of its line
  abbrev pub table_text : (class : ℕ) → TableKey → Name
  table_text c key = codes " =" ++ (set_text (typestate_of u.program c) (u.elements key) ++ codes "\n")

  -- the line of a variable of this type; one that has no objects has none
  abbrev pub variable_line : (front : Name) (name : ℕ) → CoreType → TableKey → Name
  variable_line front x ty key = elim (class_in ty) [ None ↦ [] | Some c ↦ front ++ (text_at u.program x ++ table_text c key) ]

  -- Fields.

  abbrev pub field_line : (front : Name) → (key : ℕ → TableKey) → (field : ℕ) → Field → Name
  field_line front key f d = variable_line front d.name d.ty (key f)

  abbrev pub field_lines : (front : Name) → (key : ℕ → TableKey) → List Field → Name
  field_lines front key ds = in_order (field_line front key) 0 ds

  abbrev pub state_front : (class : ℕ) → Class → (state : ℕ) → Name
  state_front c k q = codes "field " ++ (text_at u.program k.name ++ (codes " " ++ (state_text (typestate_of u.program c) q ++ codes " ")))

  -- what the fields of a class have while an object is in a state
  abbrev pub state_lines : (class : ℕ) → Class → (state : ℕ) → Name
  state_lines c k q = field_lines (state_front c k q) (keys.Field c q) k.fields

  -- and in all states that calls lead to
  abbrev pub class_lines : (class : ℕ) → Class → Name
  class_lines c k = flat_map (state_lines c k) (reached_states u.program u.reached c)

  -- Contexts.

  abbrev pub where_text : Context → Method → Name
  where_text (contexts.Plain n) m = class_text m.class
  where_text (contexts.Protocol c q n) m = class_text c ++ (codes "@" ++ state_text (typestate_of u.program c) q)

  -- `Class.method`, or `Class@State.method`
  abbrev pub context_text : Context → Method → Name
  context_text x m = where_text x m ++ (codes "." ++ text_at u.program m.name)

  -- a word and the name of a context, with a blank behind each
  abbrev pub front_of : (word name : Name) → Name
  front_of word name = word ++ (name ++ codes " ")

  abbrev pub param_line : (front : Name) → (context param : ℕ) → Slot → Name
  param_line front c i s = variable_line front s.name s.ty (keys.Param c i)

  abbrev pub param_lines : (name : Name) → (context : ℕ) → List Slot → Name
  param_lines name c ss = in_order (param_line (front_of (codes "param ") name) c) 0 ss

  abbrev pub result_line : (name : Name) → (context : ℕ) → CoreType → Name
  result_line name c ty = elim (class_in ty) [ None ↦ [] | Some k ↦ codes "result " ++ (name ++ table_text k (keys.Result c)) ]

  abbrev pub own_fields : Method → List Field
  own_fields m = elim (slice_get u.program.classes m.class) [ None ↦ [] | Some k ↦ k.fields ]

  -- what the fields have where a helper is entered and where it is left
  abbrev pub helper_lines : (name : Name) → (method : ℕ) → List Field → Name
  helper_lines name n ds =
      field_lines (front_of (codes "enter ") name) (keys.Enter n) ds ++ field_lines (front_of (codes "leave ") name) (keys.Leave n) ds

  abbrev pub helper_lines_of : (name : Name) → (method : ℕ) → Method → Name
  helper_lines_of name n m = if is_helper m.kind then helper_lines name n (own_fields m) else []

  -- loops are counted from 1
  abbrev pub loop_front : (name : Name) → (loop : ℕ) → Name
  loop_front name l = codes "loop " ++ (name ++ (codes " " ++ (decimal (l + 1) ++ codes " ")))

  -- a slot in scope at the head of a loop
  abbrev pub slot_line : (front : Name) → (context loop : ℕ) → List Slot → (slot : ℕ) → Name
  slot_line front c l ss k = elim (slice_get ss k) [ None ↦ [] | Some s ↦ variable_line front s.name s.ty (keys.Loop c l k) ]

  -- an own field stands behind the slots
  abbrev pub head_field : (context loop slots field : ℕ) → TableKey
  head_field c l n f = keys.Loop c l (n + f)

  abbrev pub head_fields : (front : Name) → (context loop : ℕ) → Method → Name
  head_fields front c l m = if is_instance m.kind then field_lines front (head_field c l (length m.slots)) (own_fields m) else []

  -- what variables have at the head of a loop
  abbrev pub head_lines : (front : Name) → (context loop : ℕ) → Method → Loop → Name
  head_lines front c l m x = flat_map (slot_line front c l m.slots) x.scope ++ head_fields front c l m

  abbrev pub loop_lines : (name : Name) → (context : ℕ) → Method → (loop : ℕ) → Loop → Name
  loop_lines name c m l x = head_lines (loop_front name l) c l m x

  -- what a context of this name has
  abbrev pub named_lines : (name : Name) → (number : ℕ) → Context → Method → Name
  named_lines name c x m =
      param_lines name c (take m.params m.slots)
      ++ (result_line name c m.result
      ++ (helper_lines_of name (method_in x) m
      ++ in_order (loop_lines name c m) 0 m.loops))

  abbrev pub method_lines : (number : ℕ) → Context → Method → Name
  method_lines c x m = named_lines (context_text x m) c x m

  abbrev pub context_lines : (number : ℕ) → Context → Name
  context_lines c x = elim (slice_get u.program.methods (method_in x)) [ None ↦ [] | Some m ↦ method_lines c x m ]

  -- the whole report
  abbrev pub lines : Name
  lines = in_order class_lines 0 u.program.classes ++ in_order context_lines 0 (contexts_in u.program u.reached)

-- the report of a program with these reached states and tables
abbrev pub report_text : Program → List (List Bool) → Tables → Name
report_text p reached t = lines (record { program = p; reached = reached; elements = λ key. members (t key) })

-- the report of the least tables of a program
pub record IsReport (p : Program) (text : Name) : Type 0 where
  pub reached : List (List Bool)
  pub are : AreReached p reached
  pub tables : Tables
  pub least : Least p reached tables
  pub is : text ≡ report_text p reached tables

-- There is one.
abbrev pub OneReport : Type 0
OneReport = (p : Program) (a b : Name) → IsReport p a → IsReport p b → a ≡ b
