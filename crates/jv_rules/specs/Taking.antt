-- Which values an expression or a statement takes, and of what type each must be.
use Rattle.std.specs.Prelude.{◌≡◌, ℕ, suc, List, [], ◌∷◌, ◌++◌, map, Option, Some, None, true, if◌then◌else◌}
use Rattle.mg_text.specs.declared.place.Place.{Place}
use Rattle.jv_tree.specs.declared.tree.Op.{Op}
use Rattle.jv_tree.specs.declared.tree.Op.TheVariants as ops
use Rattle.jv_tree.specs.Source.{Expr, Neg, Not, Binary, Call, MethodCall, Exprs, NoExpr, Argument}
use Rattle.jv_tree.specs.Source.{Stmt, Local, Assign, If, IfElse, While, Do, Switch, Return, Print}
use Rattle.jv_rules.specs.Types.{ValueType, NoValue, IntType, BooleanType, TextType, EnumType, ClassType, NullType, Fits, Signature, meant}
use Rattle.jv_rules.specs.Scope.{Scope, is_variable}
use Rattle.jv_rules.specs.Spots.{Spot, AtNode, AtStatement, Value}
use Rattle.jv_rules.specs.Typing.{type_of, called, called_on, is_text}

-- what is taken
pub data Wanted : Type 0 where
  -- a value that fits this type
  Fitting : ValueType → Wanted
  -- an int, a boolean or a String, which can be written
  Writable : Wanted
  -- a constant of an enum
  AnyEnum : Wanted
  -- a variable of a class
  ClassVariable : Wanted
  -- nothing is right
  Nothing : Wanted

abbrev pub IsWritable : ValueType → Type 0
IsWritable IntType = Unit {0}
IsWritable BooleanType = Unit {0}
IsWritable TextType = Unit {0}
IsWritable _ = ⊥

abbrev pub IsEnum : ValueType → Type 0
IsEnum (EnumType name) = Unit {0}
IsEnum _ = ⊥

abbrev pub IsClass : ValueType → Type 0
IsClass (ClassType name) = Unit {0}
IsClass _ = ⊥

-- an expression of this type is what is wanted
abbrev pub Suits : Wanted → Expr → ValueType → Type 0
Suits (Fitting taken) e given = Fits taken given
Suits Writable e given = IsWritable given
Suits AnyEnum e given = IsEnum given
Suits ClassVariable e given = IsClass given × (is_variable e ≡ true)
Suits Nothing e given = ⊥

-- an expression, and what is wanted of it
pub record Taken : Type 0 where
  pub value : Expr
  pub wanted : Wanted

abbrev pub taken : Expr → Wanted → Taken
taken value wanted = record { value = value; wanted = wanted }

abbrev pub both : ValueType → Expr → Expr → List Taken
both type l r = taken l (Fitting type) ∷ taken r (Fitting type) ∷ []

-- `+` takes two ints, or a String and what can be written, on either side
abbrev pub added : Option ValueType → Option ValueType → Expr → Expr → List Taken
added left right l r =
    if is_text left then taken r Writable ∷ []
    else if is_text right then taken l Writable ∷ []
    else both IntType l r

-- `==` and `!=` take two ints, two booleans, two of one enum, or a variable of a class and `null`
abbrev pub compared : Option ValueType → Expr → Expr → List Taken
compared (Some IntType) l r = taken r (Fitting IntType) ∷ []
compared (Some BooleanType) l r = taken r (Fitting BooleanType) ∷ []
compared (Some (EnumType name)) l r = taken r (Fitting (EnumType name)) ∷ []
compared (Some NullType) l r = taken r ClassVariable ∷ []
compared (Some (ClassType name)) l r = if is_variable l then taken r (Fitting NullType) ∷ [] else taken l Nothing ∷ []
compared _ l r = taken l Nothing ∷ []

abbrev pub operands : Op → Option ValueType → Option ValueType → Expr → Expr → List Taken
operands ops.Or left right l r = both BooleanType l r
operands ops.And left right l r = both BooleanType l r
operands ops.Eq left right l r = compared left l r
operands ops.Ne left right l r = compared left l r
operands ops.Lt left right l r = both IntType l r
operands ops.Le left right l r = both IntType l r
operands ops.Gt left right l r = both IntType l r
operands ops.Ge left right l r = both IntType l r
operands ops.Add left right l r = added left right l r
operands ops.Sub left right l r = both IntType l r
operands ops.Mul left right l r = both IntType l r
operands ops.Div left right l r = both IntType l r
operands ops.Rem left right l r = both IntType l r

-- arguments that have a parameter
abbrev pub paired : Exprs → List ValueType → List Taken
paired NoExpr types = []
paired (Argument e more) [] = []
paired (Argument e more) (t ∷ ts) = taken e (Fitting t) ∷ paired more ts

abbrev pub count_of : Exprs → ℕ
count_of NoExpr = 0
count_of (Argument e more) = suc (count_of more)

abbrev pub arguments : Option Signature → Exprs → List Taken
arguments None args = []
arguments (Some s) args = paired args s.params

-- an object is called through a variable
abbrev pub receiver : Option ValueType → Expr → List Taken
receiver (Some (ClassType name)) e = taken e ClassVariable ∷ []
receiver _ e = []

abbrev pub takes : Scope → Expr → List Taken
takes scope (Neg p e) = taken e (Fitting IntType) ∷ []
takes scope (Not p e) = taken e (Fitting BooleanType) ∷ []
takes scope (Binary p op l r) = operands op (type_of scope l) (type_of scope r) l r
takes scope (Call p name args) = arguments (called scope name) args
takes scope (MethodCall p e name args) = receiver (type_of scope e) e ++ arguments (called_on scope e (type_of scope e) name) args
takes scope _ = []

-- what is judged by its type: a value, or a place at which a value is missing
pub data Taking : Type 0 where
  Takes : Scope → Taken → Taking
  Lacks : Place → Taking

abbrev pub all_taken : Scope → List Taken → List Taking
all_taken scope ts = map (Takes scope) ts

-- the value of an assignment, where its target has a type
abbrev pub assigned : Option ValueType → Expr → List Taken
assigned None value = []
assigned (Some type) value = taken value (Fitting type) ∷ []

-- `return` in a method with this result: with a value, and without one
abbrev pub returned : ValueType → Expr → List Taken
returned NoValue value = taken value Nothing ∷ []
returned type value = taken value (Fitting type) ∷ []

abbrev pub returned_nothing : ValueType → Place → List Taking
returned_nothing NoValue p = []
returned_nothing type p = Lacks p ∷ []

abbrev pub result_of : Scope → ValueType
result_of scope = meant scope.program scope.method.result

abbrev pub taken_in : Scope → Stmt → List Taking
taken_in scope (Local p ty name e) = all_taken scope (taken e (Fitting (meant scope.program ty)) ∷ [])
taken_in scope (Assign p target value) = all_taken scope (assigned (type_of scope target) value)
taken_in scope (If p c s) = all_taken scope (taken c (Fitting BooleanType) ∷ [])
taken_in scope (IfElse p c s r) = all_taken scope (taken c (Fitting BooleanType) ∷ [])
taken_in scope (While p label c s) = all_taken scope (taken c (Fitting BooleanType) ∷ [])
taken_in scope (Do p label s c) = all_taken scope (taken c (Fitting BooleanType) ∷ [])
taken_in scope (Switch p e groups end) = all_taken scope (taken e AnyEnum ∷ [])
taken_in scope (Return p None) = returned_nothing (result_of scope) p
taken_in scope (Return p (Some value)) = all_taken scope (returned (result_of scope) value)
taken_in scope (Print p e) = all_taken scope (taken e Writable ∷ [])
taken_in scope _ = []

abbrev pub taken_at : Spot → List Taking
taken_at (AtNode scope (Value e)) = all_taken scope (takes scope e)
taken_at (AtStatement scope s) = taken_in scope s
taken_at _ = []
