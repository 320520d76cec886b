-- What a core means: by cases on its trees, over numbers. Places mean nothing.
-- Values hold the names of classes and enums, which the core takes from its tables.
use Rattle.std.specs.Prelude.{ℕ, Bool, true, false, List, [], ◌∷◌, Option, Some, None, ◌||◌, ◌&&◌, suc, pos, nat_eq, slice_get}
use Rattle.std.specs.Prelude.{if◌then◌else◌, option_map, option_and_then}
use Rattle.std.specs.Str.{bytes_eq}
use Rattle.mg_text.specs.Call.{Name}
use Rattle.jv_values.specs.Values.{Value, Row, Shared, Lives, Here, Inputs, Ended, Wrong, find, put}
use Rattle.jv_values.specs.Values as values
use Rattle.jv_values.specs.Doing.{Run, ◌>>=◌, give, stop, found, valued, valuing, within, declared, truth, constant}
use Rattle.jv_values.specs.Operators.{operator_of, binary, negative, opposite, equal_texts, joined_texts, print}
use Rattle.jv_values.specs.Objects.{object_of, read_field, write_field, make, receiver, telling}
use Rattle.jv_values.specs.Messages.{session}
use Rattle.jv_values.specs.Statements.{Normal, Breaks, Continues, Returns, Does, next_do, assigned, Mine, while_turn, do_turn, is_default}
use Rattle.jv_values.specs.Statements.{case_at, any_label, after_switch}
use Rattle.jv_values.specs.Budget.{Below, Language, ran}
use Rattle.jv_core.specs.declared.tree.Var.{Var}
use Rattle.jv_core.specs.declared.tree.Var.TheVariants as vars
use Rattle.jv_core.specs.declared.program.CoreType.{CoreType}
use Rattle.jv_core.specs.declared.program.CoreType.TheVariants as types
use Rattle.jv_core.specs.declared.program.MethodKind.{MethodKind}
use Rattle.jv_core.specs.declared.program.MethodKind.TheVariants as kinds
use Rattle.jv_core.specs.Tree.{Expr, Int, Truth, Text, Null, Variable, Constant, Neg, Not, Binary, Protocol, Helper, Static, Equals, Concat}
use Rattle.jv_core.specs.Tree.{Session, New}
use Rattle.jv_core.specs.Tree.{Exprs, NoExpr, Argument}
use Rattle.jv_core.specs.Tree.{Stmt, Block, Empty, Local, Assign, If, IfElse, While, Do, Switch, Break, Continue, Return, Print, Eval}
use Rattle.jv_core.specs.Tree.{Stmts, NoStmt, Then, Declare, Groups, NoGroup, Group, Field, Method, Program}
use Rattle.jv_core.specs.Lookup.{text_at, class_text, enum_text, variable_type, class_numbered, is_main}
use Rattle.jv_core.specs.Numbering.{numbers_from}

-- Methods, as they run.

-- a statement of the method of a number
pub record Code : Type 0 where
  pub method : ℕ
  pub stmt : Stmt

abbrev pub runs_on_object : MethodKind → Bool
runs_on_object kinds.Protocol = true
runs_on_object kinds.Helper = true
runs_on_object _ = false

abbrev pub is_result : CoreType → Bool
is_result types.Void = false
is_result _ = true

-- the method of a number: its slots name its variables, the parameters first
abbrev pub as_run : Program → (number : ℕ) → Method → values.Method ℕ Code
as_run p n m = record {
  class = m.class;
  name = text_at p m.name;
  on_object = runs_on_object m.kind;
  has_result = is_result m.result;
  params = numbers_from 0 m.params;
  body = record { method = n; stmt = Block m.place m.body m.end };
}

abbrev pub method_of : Program → ℕ → Option (values.Method ℕ Code)
method_of p n = option_map (as_run p n) (slice_get p.methods n)

-- Objects.

-- a field without a written constant begins with 0, false or null
abbrev pub default_of : CoreType → Value
default_of types.Int = values.Int (pos 0)
default_of types.Boolean = values.Truth false
default_of _ = values.Null

-- the constants that may be written
abbrev pub written : Program → Expr → Option Value
written p (Int q z) = Some (values.Int z)
written p (Truth q b) = Some (values.Truth b)
written p (Text q t) = Some (values.Text t)
written p (Null q) = Some values.Null
written p (Constant q e n) = option_map (λ name. values.Constant name n) (enum_text p e)
written p _ = None

abbrev pub begins_with : Program → CoreType → Option Expr → Option Value
begins_with p ty None = Some (default_of ty)
begins_with p ty (Some e) = written p e

-- the fields of a new object
abbrev pub new_fields : Program → List Field → Option (Row Name)
new_fields p [] = Some []
new_fields p (f ∷ fs) = option_and_then (λ v. option_map (λ row. (text_at p f.name, v) ∷ row) (new_fields p fs))
    (begins_with p f.ty f.value)

-- The enum whose constants an expression gives.

abbrev pub enum_in : CoreType → Option ℕ
enum_in (types.Enum e) = Some e
enum_in _ = None

abbrev pub result_of : Program → (method : ℕ) → Option CoreType
result_of p n = option_map (λ m. m.result) (slice_get p.methods n)

abbrev pub type_given : Program → (method : ℕ) → Expr → Option CoreType
type_given p n (Variable q x) = option_and_then (λ m. variable_type p m x) (slice_get p.methods n)
type_given p n (Constant q e k) = Some (types.Enum e)
type_given p n (Protocol q x m args) = result_of p m
type_given p n (Helper q m args) = result_of p m
type_given p n (Static q m args) = result_of p m
type_given p n _ = None

-- its name
abbrev pub enum_given : Program → (method : ℕ) → Expr → Option Name
enum_given p n e = option_and_then (enum_text p) (option_and_then enum_in (type_given p n e))

-- Exits and switches.

-- an exit is a loop's if it has the loop's number
abbrev pub mine : (loop : ℕ) → Mine ℕ
mine loop None = false
mine loop (Some k) = nat_eq k loop

abbrev pub has_group : (Option ℕ → Bool) → Groups → Bool
has_group wanted NoGroup = false
has_group wanted (Group labels body end rest) = any_label wanted labels || has_group wanted rest

abbrev pub Lower : Type 0
Lower = Below ℕ ℕ Code

-- p is the program, n the number of the method whose code runs
module _ (p : Program) (inputs : Inputs) (low : Lower) (n : ℕ) (here : Here ℕ) where
  -- the name of an own field
  abbrev pub own_field : (field : ℕ) → Run Shared (Name × Name)
  own_field f = do
    k ← found (slice_get p.classes here.class)
    d ← found (slice_get k.fields f)
    give (text_at p k.name, text_at p d.name)

  abbrev pub read : Row ℕ → Var → Run Shared Value
  read locals (vars.Slot k) = found (find nat_eq k locals)
  read locals (vars.Field f) = own_field f >>= λ names. read_field names.0 here.object names.1

  abbrev pub write : Var → Value → Does ℕ
  write (vars.Slot k) v = λ s. assigned (put nat_eq k v s.locals) (within (λ locals. stop Wrong)) s
  write (vars.Field f) v = within (λ locals. own_field f >>= λ names. write_field names.0 here.object names.1 v) >>= λ done. give Normal

  -- a protocol method is called on an object of its class, and tells of the call
  abbrev pub protocol_call : (method : ℕ) → Value → List Value → Run Shared (Option Value)
  protocol_call m v vs = do
    o ← receiver v
    k ← found (slice_get p.methods m)
    c ← found (class_text p k.class)
    i ← object_of c o
    telling o (text_at p k.name) (low.call m (Some o) vs)

  abbrev mutual
    -- an expression gives a value, or none where it calls a method without a result
    pub eval : Row ℕ → Expr → Run Shared (Option Value)
    eval locals (Int q z) = give (Some (values.Int z))
    eval locals (Truth q b) = give (Some (values.Truth b))
    eval locals (Text q t) = give (Some (values.Text t))
    eval locals (Null q) = give (Some values.Null)
    eval locals (Variable q x) = valuing (read locals x)
    eval locals (Constant q e k) = valuing (found (enum_text p e) >>= λ name. give (values.Constant name k))
    eval locals (Neg q e) = valuing (valued (eval locals e) >>= negative)
    eval locals (Not q e) = valuing (valued (eval locals e) >>= opposite)
    eval locals (Binary q op l r) = valuing (binary (operator_of op) (valued (eval locals l)) (valued (eval locals r)))
    -- the receiver comes before the arguments
    eval locals (Protocol q x m args) = do
      v ← read locals x.var
      vs ← eval_all locals args
      protocol_call m v vs
    eval locals (Helper q m args) = eval_all locals args >>= low.call m here.object
    eval locals (Static q m args) = eval_all locals args >>= low.call m None
    eval locals (Equals q l r) = valuing (valued (eval locals l) >>= λ v. valued (eval locals r) >>= λ w. equal_texts v w)
    eval locals (Concat q l r) = valuing (valued (eval locals l) >>= λ v. valued (eval locals r) >>= λ w. joined_texts v w)
    eval locals (Session q c args) = eval_all locals args >>= session inputs c
    eval locals (New q c) = do
      k ← found (slice_get p.classes c)
      row ← found (new_fields p k.fields)
      valuing (make (record { class = text_at p k.name; fields = row }))

    -- from left to right
    pub eval_all : Row ℕ → Exprs → Run Shared (List Value)
    eval_all locals NoExpr = give []
    eval_all locals (Argument e rest) = do
      v ← valued (eval locals e)
      vs ← eval_all locals rest
      give (v ∷ vs)

  -- Expressions in statements.

  abbrev pub value : Expr → Run (Lives ℕ) Value
  value e = within (λ locals. valued (eval locals e))

  abbrev pub test : Expr → Run (Lives ℕ) Bool
  test e = within (λ locals. valued (eval locals e) >>= truth)

  -- the position of a constant of the enum whose constants an expression gives
  abbrev pub position : Expr → Run (Lives ℕ) ℕ
  position e = within (λ locals. valued (eval locals e) >>= constant >>= λ v. found
      (enum_given p n e) >>= λ name. if bytes_eq v.0 name then give v.1 else stop Wrong)

  abbrev mutual
    pub exec : Stmt → Does ℕ
    exec (Block q body end) = exec_all body
    exec (Empty q) = give Normal
    exec (Local q x e) = value e >>= λ v. declared x v (give Normal)
    exec (Assign q x e) = value e >>= write x.var
    exec (If q e s) = test e >>= λ t. if t then exec s else give Normal
    exec (IfElse q e s r) = test e >>= λ t. if t then exec s else exec r
    exec (While q l e s) = while_turn (mine l) (mine l) (test e) (exec s) (low.turn here (record { method = n; stmt = While q l e s }))
    exec (Do q l s e) = do_turn (mine l) (mine l) (exec s) (test e) (low.turn here (record { method = n; stmt = Do q l s e }))
    exec (Switch q e groups end) = do
      k ← position e
      d ← if has_group (case_at k) groups then exec_from (case_at k) groups else exec_from is_default groups
      after_switch d
    exec (Break q l) = give (Breaks l)
    exec (Continue q l) = give (Continues (Some l))
    exec (Return q None) = give (Returns None)
    exec (Return q (Some e)) = value e >>= λ v. give (Returns (Some v))
    exec (Print q e) = within (λ locals. valued (eval locals e) >>= print) >>= λ done. give Normal
    exec (Eval q e) = within (λ locals. eval locals e) >>= λ v. give Normal

    pub exec_all : Stmts → Does ℕ
    exec_all NoStmt = give Normal
    exec_all (Then s rest) = exec s >>= next_do (exec_all rest)
    -- a declaration stands for the rest of its list
    exec_all (Declare q x e rest) = value e >>= λ v. declared x v (exec_all rest)

    -- from the first group with such a label on, each falling into the next
    pub exec_from : (Option ℕ → Bool) → Groups → Does ℕ
    exec_from wanted NoGroup = give Normal
    exec_from wanted (Group labels body end rest) =
        if any_label wanted labels then exec_all body >>= next_do (exec_groups rest) else exec_from wanted rest

    pub exec_groups : Groups → Does ℕ
    exec_groups NoGroup = give Normal
    exec_groups (Group labels body end rest) = exec_all body >>= next_do (exec_groups rest)

-- a core with what the other roles sent, as a language
abbrev pub language : Program → Inputs → Language ℕ ℕ Code
language p inputs = record { method = method_of p; exec = λ low here code. exec p inputs low code.method here code.stmt }

-- `main` of a class: the first method of its kind, of the first class of this name
abbrev pub main_in : Program → (class : ℕ) → (number : ℕ) → List Method → Option (values.Method ℕ Code)
main_in p c n [] = None
main_in p c n (m ∷ ms) = if nat_eq m.class c && is_main m.kind then Some (as_run p n m) else main_in p c (suc n) ms

abbrev pub main_of : Program → (class : Name) → Option (values.Method ℕ Code)
main_of p name = option_and_then (λ c. main_in p c 0 p.methods) (class_numbered p name)

-- what `main` of a class does with a budget, where there are no objects yet
abbrev pub cmean : Program → (class : Name) → Inputs → (budget : ℕ) → Ended
cmean p class inputs budget = ran (language p inputs) (main_of p class) budget
