-- What each condition answers at a spot, by computing.
use Rattle.std.specs.Prelude.{ℕ, List, [], ◌∷◌, length, Option, Some, None, is_some, Bool, true, false, not, ◌&&◌, ◌||◌, ◌==◌}
use Rattle.std.specs.Prelude.{if◌then◌else◌, codes}
use Rattle.std.specs.List.{list_any}
use Rattle.std.specs.Option.{option_or}
use Rattle.std.specs.Str.{bytes_eq}
use Rattle.mg_text.specs.Call.{Name}
use Rattle.mg_text.specs.declared.place.Place.{Place}
use Rattle.mg_read.specs.Culprit.{Culprit, culprit}
use Rattle.ts_tree.specs.declared.parts.TypeName.{TypeName}
use Rattle.ts_tree.specs.declared.parts.TypeName.TheVariants as written
use Rattle.jv_tree.specs.Source.{Expr, This, Variable, Member, Neg, Not, Binary, Call, MethodCall, Exprs, NoExpr, Argument, place_of}
use Rattle.jv_tree.specs.Source.{Local, Enum}
use Rattle.jv_meaning.specs.Program.{class_named, enum_named, method_named}
use Rattle.jv_rules.specs.declared.condition.Condition.{Condition}
use Rattle.jv_rules.specs.declared.condition.Condition.TheVariants as conditions
use Rattle.jv_rules.specs.Program.{Program, is_of_protocol}
use Rattle.jv_rules.specs.Types.{ValueType, NoValue, IntType, BooleanType, TextType, EnumType, ClassType, NullType, Signature}
use Rattle.jv_rules.specs.Scope.{Scope, Loop, Target, local_named, variable_type, field_of, is_variable}
use Rattle.jv_rules.specs.Scope as targets
use Rattle.jv_rules.specs.Typing.{type_of, called, called_on}
use Rattle.jv_rules.specs.Spots.{Value, Receiver, Qualifier, Spot, AtNode, AtStatement, AtParameter, AtEnd, spots}
use Rattle.jv_rules.specs.Taking.{Wanted, Fitting, Writable, AnyEnum, ClassVariable, Nothing, Taking, Takes, Lacks, count_of, taken_at}
use Rattle.jv_rules.specs.Conditions.{Labelled, BreakAt, ContinueAt, LoopAt, CaseAt, label_name, labelled_at}
use Rattle.jv_rules.specs.Faults.{on_methods}
use Rattle.jv_rules.specs.inner.Leaving.{same_label, leaves_all}
use Rattle.jv_rules.specs.Completes.{Through}

-- the culprit, where something is wrong
abbrev pub when : Bool → Culprit → Option Culprit
when b c = if b then Some c else None

-- the first answer that there is
abbrev pub first_by : {X C : Type 0} → (X → Option C) → List X → Option C
first_by f [] = None
first_by f (x ∷ xs) = option_or (f x) (first_by f xs)

abbrev pub told : {K C : Type 0} → K → Option C → Option (K × C) → Option (K × C)
told k (Some c) r = Some (k, c)
told k None r = r

-- the first condition that has an answer
abbrev pub first_kind : {K C : Type 0} → (K → Option C) → List K → Option (K × C)
first_kind f [] = None
first_kind f (k ∷ ks) = told k (f k) (first_kind f ks)

abbrev pub names_class : Scope → Name → Bool
names_class scope name = bytes_eq name (codes "Session") || is_some (class_named scope.program.files name)

abbrev pub is_receiver : Scope → Name → Bool
is_receiver scope name = is_some (variable_type scope name) || names_class scope name

abbrev pub is_qualifier : Scope → Name → Bool
is_qualifier scope name = is_some (variable_type scope name) || (is_some (enum_named scope.program.files name) || names_class scope name)

abbrev pub unknown_name : Spot → Option Culprit
unknown_name (AtNode scope (Receiver p x)) = when (not (is_receiver scope x)) (culprit p x)
unknown_name (AtNode scope (Qualifier p x)) = when (not (is_qualifier scope x)) (culprit p x)
unknown_name (AtNode scope (Value (Variable p x))) = when (not (is_some (variable_type scope x))) (culprit p x)
unknown_name (AtNode scope (Value (Member p e name))) = when (not (is_some (type_of scope (Member p e name)))) (culprit p name)
unknown_name (AtNode scope (Value (Call p name args))) = when (not (is_some (called scope name))) (culprit p name)
unknown_name (AtNode scope (Value (MethodCall p e name args))) = when (not (is_some (called_on scope e (type_of scope e) name)))
    (culprit p name)
unknown_name _ = None

abbrev pub duplicate_local : Spot → Option Culprit
duplicate_local (AtParameter scope p) = when (is_some (local_named scope p.name)) (culprit p.place p.name)
duplicate_local (AtStatement scope (Local p ty name e)) = when (is_some (local_named scope name)) (culprit p name)
duplicate_local _ = None

-- a number and a name for each type
abbrev pub tag : ValueType → ℕ
tag NoValue = 0
tag IntType = 1
tag BooleanType = 2
tag TextType = 3
tag (EnumType n) = 4
tag (ClassType n) = 5
tag NullType = 6

abbrev pub type_name : ValueType → Name
type_name (EnumType n) = n
type_name (ClassType n) = n
type_name _ = []

abbrev pub same_type : ValueType → ValueType → Bool
same_type s t = (tag s == tag t) && bytes_eq (type_name s) (type_name t)

abbrev pub fits : ValueType → ValueType → Bool
fits taken given = same_type taken given || ((tag taken == 5) && (tag given == 6))

abbrev pub is_writable : ValueType → Bool
is_writable IntType = true
is_writable BooleanType = true
is_writable TextType = true
is_writable _ = false

abbrev pub suits : Wanted → Expr → ValueType → Bool
suits (Fitting taken) e given = fits taken given
suits Writable e given = is_writable given
suits AnyEnum e given = tag given == 4
suits ClassVariable e given = (tag given == 5) && is_variable e
suits Nothing e given = false

abbrev pub suits_some : Wanted → Expr → Option ValueType → Bool
suits_some wanted e None = false
suits_some wanted e (Some given) = suits wanted e given

abbrev pub type_mismatch : Taking → Option Culprit
type_mismatch (Takes scope t) = when (not (suits_some t.wanted t.value (type_of scope t.value))) (culprit (place_of t.value) [])
type_mismatch (Lacks p) = Some (culprit p [])

abbrev pub count_differs : Place → Option Signature → Exprs → Option Culprit
count_differs p None args = None
count_differs p (Some s) args = when (not (count_of args == length s.params)) (culprit p [])

abbrev pub arity : Spot → Option Culprit
arity (AtNode scope (Value (Call p name args))) = count_differs p (called scope name) args
arity (AtNode scope (Value (MethodCall p e name args))) = count_differs p (called_on scope e (type_of scope e) name) args
arity _ = None

abbrev pub is_loop : Target → Bool
is_loop (Loop label) = true
is_loop targets.Switch = false

abbrev pub has_label : Name → Target → Bool
has_label name (Loop label) = same_label label (Some name)
has_label name targets.Switch = false

abbrev pub can_break : List Target → Option Name → Bool
can_break [] None = false
can_break (t ∷ ts) None = true
can_break around (Some label) = list_any (has_label label) around

abbrev pub can_continue : List Target → Option Name → Bool
can_continue around None = list_any is_loop around
can_continue around (Some label) = list_any (has_label label) around

abbrev pub has_constant : Option Enum → Name → Bool
has_constant None name = false
has_constant (Some e) name = list_any (bytes_eq name) e.constants

-- a case is a constant of a type
abbrev pub is_case_of : Program → Option ValueType → Name → Bool
is_case_of program (Some (EnumType of)) name = has_constant (enum_named program.files of) name
is_case_of program _ name = false

abbrev pub bad_label : Labelled → Option Culprit
bad_label (BreakAt scope p label) = when (not (can_break scope.around label)) (culprit p (label_name label))
bad_label (ContinueAt scope p label) = when (not (can_continue scope.around label)) (culprit p (label_name label))
bad_label (LoopAt scope p None) = None
bad_label (LoopAt scope p (Some label)) = when (list_any (has_label label) scope.around) (culprit p label)
bad_label (CaseAt scope p e (earlier, None)) = when (list_any (same_label None) earlier) (culprit p [])
bad_label (CaseAt scope p e (earlier, Some name)) =
    when (list_any (same_label (Some name)) earlier || not (is_case_of scope.program (type_of scope e) name)) (culprit p name)

abbrev pub is_void : TypeName → Bool
is_void written.Void = true
is_void _ = false

abbrev pub missing_return : Spot → Option Culprit
missing_return (AtEnd m) = when (not (is_void m.result) && leaves_all m.body Through) (culprit m.end [])
missing_return _ = None

-- an instance method of the own class
abbrev pub is_own : Scope → Name → Bool
is_own scope name = elim (method_named scope.class name) [ None ↦ false | Some m ↦ not m.is_static ]

abbrev pub is_protocol : Scope → Name → Bool
is_protocol scope name = is_own scope name && is_of_protocol scope.program scope.class name

abbrev pub is_helper : Scope → Name → Bool
is_helper scope name = is_own scope name && not (is_of_protocol scope.program scope.class name)

abbrev pub self_call : Spot → Option Culprit
self_call (AtNode scope (Value (Call p name args))) = when (is_protocol scope name) (culprit p name)
self_call (AtNode scope (Value (MethodCall p (This q) name args))) = when (is_protocol scope name) (culprit p name)
self_call _ = None

abbrev pub this_as_value : Spot → Option Culprit
this_as_value (AtNode scope (Value (This p))) = Some (culprit p [])
this_as_value _ = None

abbrev mutual
  pub calls_helper : Scope → Expr → Bool
  calls_helper scope (Member p e name) = calls_helper scope e
  calls_helper scope (Neg p e) = calls_helper scope e
  calls_helper scope (Not p e) = calls_helper scope e
  calls_helper scope (Binary p op l r) = calls_helper scope l || calls_helper scope r
  calls_helper scope (Call p name args) = is_helper scope name || calls_helper_in scope args
  calls_helper scope (MethodCall p (This q) name args) = is_helper scope name || calls_helper_in scope args
  calls_helper scope (MethodCall p e name args) = calls_helper scope e || calls_helper_in scope args
  calls_helper scope _ = false

  pub calls_helper_in : Scope → Exprs → Bool
  calls_helper_in scope NoExpr = false
  calls_helper_in scope (Argument e more) = calls_helper scope e || calls_helper_in scope more

abbrev pub args_may_move : Spot → Option Culprit
args_may_move (AtNode scope (Value (MethodCall p e name args))) =
    elim (field_of scope e) [ None ↦ None | Some f ↦ when (calls_helper_in scope args) (culprit p f.name) ]
args_may_move _ = None

-- what a condition answers at a spot
abbrev pub answer : Spot → Condition → Option Culprit
answer spot conditions.UnknownName = unknown_name spot
answer spot conditions.DuplicateLocal = duplicate_local spot
answer spot conditions.TypeMismatch = first_by type_mismatch (taken_at spot)
answer spot conditions.Arity = arity spot
answer spot conditions.BadLabel = first_by bad_label (labelled_at spot)
answer spot conditions.MissingReturn = missing_return spot
answer spot conditions.SelfCall = self_call spot
answer spot conditions.ThisAsValue = this_as_value spot
answer spot conditions.ArgsMayMove = args_may_move spot
answer spot _ = None

-- what is at fault at a spot
abbrev pub fault_at : Spot → Option (Condition × Culprit)
fault_at spot = first_kind (answer spot) on_methods

-- what is at fault at some spots, in order
abbrev pub fault_in : List Spot → Option (Condition × Culprit)
fault_in = first_by fault_at

-- the fault of the methods of a program
abbrev pub method_fault : Program → Option (Condition × Culprit)
method_fault program = fault_in (spots program)
