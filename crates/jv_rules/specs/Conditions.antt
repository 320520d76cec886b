-- The conditions on methods: where each is at fault, and with which name.
use Rattle.std.specs.Prelude.{◌≡◌, ◌≢◌, ◌⊎◌, List, [], ◌∷◌, ◌++◌, map, length, Option, Some, None, Contains, true, false, codes}
use Rattle.mg_text.specs.Call.{Name}
use Rattle.mg_text.specs.declared.place.Place.{Place}
use Rattle.mg_read.specs.Culprit.{Culprit, culprit}
use Rattle.mg_read.specs.First.{with_earlier}
use Rattle.ts_tree.specs.declared.parts.TypeName.TheVariants as written
use Rattle.jv_tree.specs.Source.{Expr, This, Variable, Member, Neg, Not, Binary, Call, MethodCall, Exprs, NoExpr, Argument, place_of}
use Rattle.jv_tree.specs.Source.{Local, While, Do, Switch, Break, Continue}
use Rattle.jv_tree.specs.Source.{Groups, NoGroup, Group, Field, Method, Enum}
use Rattle.jv_meaning.specs.Program.{class_named, enum_named, method_named}
use Rattle.jv_rules.specs.Program.{is_of_protocol}
use Rattle.jv_rules.specs.Types.{ValueType, EnumType, Signature}
use Rattle.jv_rules.specs.Scope.{Scope, Loop, Target, local_named, variable_type, field_of}
use Rattle.jv_rules.specs.Typing.{type_of, called, called_on}
use Rattle.jv_rules.specs.Taking.{Taking, Takes, Lacks, Suits, count_of}
use Rattle.jv_rules.specs.Spots.{Value, Receiver, Qualifier, Spot, AtNode, AtStatement, AtParameter, AtEnd}
use Rattle.jv_rules.specs.Completes.{Completes}

-- the name of a class, `Session` included
abbrev pub NamesClass : Scope → Name → Type 0
NamesClass scope name = (name ≡ codes "Session") ⊎ (class_named scope.program.files name ≢ None)

-- A name before `.name(..)` is that of a variable or of a class.
abbrev pub IsReceiver : Scope → Name → Type 0
IsReceiver scope name = (variable_type scope name ≢ None) ⊎ NamesClass scope name

-- A name before `.name` is that of a variable, of an enum or of a class, which has no such member.
abbrev pub IsQualifier : Scope → Name → Type 0
IsQualifier scope name = (variable_type scope name ≢ None) ⊎ ((enum_named scope.program.files name ≢ None) ⊎ NamesClass scope name)

-- 10. UnknownName: a name names nothing that is visible or callable there
abbrev pub UnknownName : Spot → Culprit → Type 0
UnknownName (AtNode scope (Receiver p x)) c = (c ≡ culprit p x) × (IsReceiver scope x → ⊥)
UnknownName (AtNode scope (Qualifier p x)) c = (c ≡ culprit p x) × (IsQualifier scope x → ⊥)
UnknownName (AtNode scope (Value (Variable p x))) c = (c ≡ culprit p x) × (variable_type scope x ≡ None)
UnknownName (AtNode scope (Value (Member p e name))) c = (c ≡ culprit p name) × (type_of scope (Member p e name) ≡ None)
UnknownName (AtNode scope (Value (Call p name args))) c = (c ≡ culprit p name) × (called scope name ≡ None)
UnknownName (AtNode scope (Value (MethodCall p e name args))) c = (c ≡ culprit p name) × (called_on scope e (type_of scope e) name ≡ None)
UnknownName _ c = ⊥

-- 11. DuplicateLocal: a local or parameter has the name of one in scope
abbrev pub DuplicateLocal : Spot → Culprit → Type 0
DuplicateLocal (AtParameter scope p) c = (c ≡ culprit p.place p.name) × (local_named scope p.name ≢ None)
DuplicateLocal (AtStatement scope (Local p ty name e)) c = (c ≡ culprit p name) × (local_named scope name ≢ None)
DuplicateLocal _ c = ⊥

-- 12. TypeMismatch: the type of a value isn't what is taken, or `return` lacks the value of the method's result
abbrev pub TypeMismatch : Taking → Culprit → Type 0
TypeMismatch (Takes scope t) c =
    (c ≡ culprit (place_of t.value) []) × ((type : ValueType) → type_of scope t.value ≡ Some type → Suits t.wanted t.value type → ⊥)
TypeMismatch (Lacks p) c = c ≡ culprit p []

-- 13. Arity: the number of arguments differs
abbrev pub Arity : Spot → Culprit → Type 0
Arity (AtNode scope (Value (Call p name args))) c =
    (c ≡ culprit p []) × (s : Signature) × (called scope name ≡ Some s) × (count_of args ≢ length s.params)
Arity (AtNode scope (Value (MethodCall p e name args))) c =
    (c ≡ culprit p []) × (s : Signature) × (called_on scope e (type_of scope e) name ≡ Some s) × (count_of args ≢ length s.params)
Arity _ c = ⊥

-- `break` has a target: without a label the innermost loop or switch, else a loop around of that label
abbrev pub CanBreak : List Target → Option Name → Type 0
CanBreak around None = around ≢ []
CanBreak around (Some label) = Contains around (Loop (Some label))

-- `continue` has a target: without a label the innermost loop
abbrev pub CanContinue : List Target → Option Name → Type 0
CanContinue around None = (label : Option Name) × Contains around (Loop label)
CanContinue around (Some label) = Contains around (Loop (Some label))

-- the name in a fault, which is empty where there is none
abbrev pub label_name : Option Name → Name
label_name None = []
label_name (Some label) = label

-- what is judged by its label
pub data Labelled : Type 0 where
  BreakAt : Scope → Place → Option Name → Labelled
  ContinueAt : Scope → Place → Option Name → Labelled
  LoopAt : Scope → Place → Option Name → Labelled
  -- a case or a default of a switch on a value, behind those before it; the place is that of the switch
  CaseAt : Scope → Place → Expr → List (Option Name) × Option Name → Labelled

-- the cases and defaults of a switch, in the order of the text
abbrev pub cases : Groups → List (Option Name)
cases NoGroup = []
cases (Group labels body end more) = labels ++ cases more

-- what is labelled at a spot
abbrev pub labelled_at : Spot → List Labelled
labelled_at (AtStatement scope (Break p label)) = BreakAt scope p label ∷ []
labelled_at (AtStatement scope (Continue p label)) = ContinueAt scope p label ∷ []
labelled_at (AtStatement scope (While p label c s)) = LoopAt scope p label ∷ []
labelled_at (AtStatement scope (Do p label s c)) = LoopAt scope p label ∷ []
labelled_at (AtStatement scope (Switch p e groups end)) = map (CaseAt scope p e) (with_earlier (cases groups))
labelled_at _ = []

abbrev pub IsConstant : Option Enum → Name → Type 0
IsConstant None name = ⊥
IsConstant (Some e) name = Contains e.constants name

-- a case is a constant of the enum whose value is switched on
abbrev pub IsCase : Scope → Expr → Name → Type 0
IsCase scope e name = (of : Name) × (type_of scope e ≡ Some (EnumType of)) × IsConstant (enum_named scope.program.files of) name

-- 14. BadLabel: `break` or `continue` has no such target; a label equals that of a loop around;
-- a case or default stands behind an equal one, or a case is no constant of the enum
abbrev pub BadLabel : Labelled → Culprit → Type 0
BadLabel (BreakAt scope p label) c = (c ≡ culprit p (label_name label)) × (CanBreak scope.around label → ⊥)
BadLabel (ContinueAt scope p label) c = (c ≡ culprit p (label_name label)) × (CanContinue scope.around label → ⊥)
BadLabel (LoopAt scope p None) c = ⊥
BadLabel (LoopAt scope p (Some label)) c = (c ≡ culprit p label) × Contains scope.around (Loop (Some label))
BadLabel (CaseAt scope p e (earlier, None)) c = (c ≡ culprit p []) × Contains earlier None
BadLabel (CaseAt scope p e (earlier, Some name)) c = (c ≡ culprit p name) × (Contains earlier (Some name) ⊎ (IsCase scope e name → ⊥))

-- 15. MissingReturn: the body of a method with a result can complete
abbrev pub MissingReturn : Spot → Culprit → Type 0
MissingReturn (AtEnd m) c = (c ≡ culprit m.end []) × (m.result ≢ written.Void) × Completes m.body
MissingReturn _ c = ⊥

-- an instance method of the own class
abbrev pub IsOwn : Scope → Name → Type 0
IsOwn scope name = (m : Method) × (method_named scope.class name ≡ Some m) × (m.is_static ≡ false)

-- a method of the own protocol, or else a helper
abbrev pub IsProtocol : Scope → Name → Type 0
IsProtocol scope name = IsOwn scope name × (is_of_protocol scope.program scope.class name ≡ true)

abbrev pub IsHelper : Scope → Name → Type 0
IsHelper scope name = IsOwn scope name × (is_of_protocol scope.program scope.class name ≡ false)

-- 16. SelfCall: a protocol method is called on `this` or without a receiver
abbrev pub SelfCall : Spot → Culprit → Type 0
SelfCall (AtNode scope (Value (Call p name args))) c = (c ≡ culprit p name) × IsProtocol scope name
SelfCall (AtNode scope (Value (MethodCall p (This q) name args))) c = (c ≡ culprit p name) × IsProtocol scope name
SelfCall _ c = ⊥

-- 17. ThisAsValue: `this` stands other than before `.name`
abbrev pub ThisAsValue : Spot → Culprit → Type 0
ThisAsValue (AtNode scope (Value (This p))) c = c ≡ culprit p []
ThisAsValue _ c = ⊥

abbrev mutual
  -- a helper call stands in an expression, at any depth
  pub CallsHelper : Scope → Expr → Type 0
  CallsHelper scope (Member p e name) = CallsHelper scope e
  CallsHelper scope (Neg p e) = CallsHelper scope e
  CallsHelper scope (Not p e) = CallsHelper scope e
  CallsHelper scope (Binary p op l r) = CallsHelper scope l ⊎ CallsHelper scope r
  CallsHelper scope (Call p name args) = IsHelper scope name ⊎ CallsHelperIn scope args
  CallsHelper scope (MethodCall p (This q) name args) = IsHelper scope name ⊎ CallsHelperIn scope args
  CallsHelper scope (MethodCall p e name args) = CallsHelper scope e ⊎ CallsHelperIn scope args
  CallsHelper scope _ = ⊥

  pub CallsHelperIn : Scope → Exprs → Type 0
  CallsHelperIn scope NoExpr = ⊥
  CallsHelperIn scope (Argument e more) = CallsHelper scope e ⊎ CallsHelperIn scope more

-- 18. ArgsMayMove: a call on an own field has a helper call inside its arguments
abbrev pub ArgsMayMove : Spot → Culprit → Type 0
ArgsMayMove (AtNode scope (Value (MethodCall p e name args))) c =
    (f : Field) × (field_of scope e ≡ Some f) × (c ≡ culprit p f.name) × CallsHelperIn scope args
ArgsMayMove _ c = ⊥
