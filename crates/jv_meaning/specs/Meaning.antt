-- What a program means: by cases on its trees, over names. Places mean nothing.
use Rattle.std.specs.Prelude.{ℕ, Bool, true, false, List, [], ◌∷◌, Option, Some, None, ◌||◌, if◌then◌else◌, codes}
use Rattle.std.specs.Str.{bytes_eq}
use Rattle.mg_text.specs.Call.{Name}
use Rattle.jv_tree.specs.declared.built_in.TextCall.TheVariants as texts
use Rattle.jv_tree.specs.BuiltIn.{session_named, text_method}
use Rattle.jv_tree.specs.Source.{Expr, Int, Truth, Text, Null, This, Variable, Member, Neg, Not, Binary, Call, MethodCall, New, Exprs}
use Rattle.jv_tree.specs.Source.{NoExpr, Argument}
use Rattle.jv_tree.specs.Source.{Stmt, Block, Empty, Local, Assign, If, IfElse, While, Do, Switch, Break, Continue, Return, Print, Eval}
use Rattle.jv_tree.specs.Source.{Stmts, NoStmt, Then, Groups, NoGroup, Group, Enum}
use Rattle.jv_values.specs.Values.{Value, Row, Shared, Lives, Here, Inputs, Ended, Wrong, put}
use Rattle.jv_values.specs.Values as values
use Rattle.jv_values.specs.Doing.{Run, ◌>>=◌, give, stop, found, valued, valuing, within, declared, truth, constant}
use Rattle.jv_values.specs.Operators.{binary, negative, opposite, equal_texts, joined_texts, print}
use Rattle.jv_values.specs.Objects.{object, read_field, write_field, make, receiver, telling}
use Rattle.jv_values.specs.Messages.{session}
use Rattle.jv_values.specs.Statements.{Normal, Breaks, Continues, Returns, Does, next_do, assigned, Mine, while_turn, do_turn, is_default}
use Rattle.jv_values.specs.Statements.{case_at, any_label, after_switch}
use Rattle.jv_values.specs.Budget.{Below, Language, ran}
use Rattle.jv_meaning.specs.Program.{Sources, class_named, enum_named, constant_position}
use Rattle.jv_values.specs.Operators.{operator_of}
use Rattle.jv_meaning.specs.Names.{Called, method_of, main_of, Referent, ALocal, AField, NoVariable, referent}
use Rattle.jv_meaning.specs.Names.{constant_named, new_fields}

abbrev pub Lower : Type 0
Lower = Below Name Called Stmt

-- Variables, fields and constants.

abbrev pub read : Here Name → Name → Referent → Run Shared Value
read here x (ALocal v) = give v
read here x AField = read_field here.class here.object x
read here x NoVariable = stop Wrong

-- `E.A`, where no variable is named E
abbrev pub read_constant : Sources → (enum constant : Name) → Referent → Run Shared Value
read_constant j e a NoVariable = found (constant_named j e a)
read_constant j e a _ = stop Wrong

-- `this.f`, or `E.A`
abbrev pub member : Sources → Here Name → Row Name → Expr → Name → Run Shared Value
member j here locals (This p) f = read_field here.class here.object f
member j here locals (Variable p e) a = read_constant j e a (referent j here locals e)
member j here locals _ f = stop Wrong

abbrev pub write_own : Here Name → Name → Value → Does Name
write_own here f v = within (λ locals. write_field here.class here.object f v) >>= λ done. give Normal

abbrev pub write_member : Here Name → Expr → Name → Value → Does Name
write_member here (This p) f v = write_own here f v
write_member here _ f v = within (λ locals. stop Wrong)

-- a local, or else an own field
abbrev pub write : Here Name → Expr → Value → Does Name
write here (Variable p x) v = λ s. assigned (put bytes_eq x v s.locals) (write_own here x v) s
write here (Member p e f) v = write_member here e f v
write here _ v = within (λ locals. stop Wrong)

-- Exits and switches.

-- an exit is a loop's if it has no label, or the loop's
abbrev pub mine : (loop : Option Name) → Mine Name
mine loop None = true
mine (Some l) (Some k) = bytes_eq k l
mine None (Some k) = false

-- whether a label is the constant of position n
abbrev pub case_label : Enum → ℕ → Option Name → Bool
case_label e n None = false
case_label e n (Some l) = case_at n (constant_position e l)

abbrev pub has_group : (Option Name → Bool) → Groups → Bool
has_group wanted NoGroup = false
has_group wanted (Group labels body end rest) = any_label wanted labels || has_group wanted rest

-- Calls.

-- what stands before the `.name` of a call: `this`, a class, or what has a value
pub data Target : Type 0 where
  Own : Target
  OfClass : Name → Target
  OfValue : Target

abbrev pub class_or : Name → Referent → Target
class_or x NoVariable = OfClass x
class_or x _ = OfValue

abbrev pub target_of : Sources → Here Name → Row Name → Expr → Target
target_of j here locals (This p) = Own
target_of j here locals (Variable p x) = class_or x (referent j here locals x)
target_of j here locals _ = OfValue

-- the object for a method of the own class: its own, where the method runs on one
abbrev pub passed : Option ℕ → Option (values.Method Name Stmt) → Option ℕ
passed this None = None
passed this (Some m) = if m.on_object then this else None

-- `equals` and `concat` of a text
abbrev pub text_call : Value → Name → List Value → Run Shared Value
text_call t m (w ∷ []) =
    if bytes_eq m (text_method texts.Equals).name then equal_texts t w
    else if bytes_eq m (text_method texts.Concat).name then joined_texts t w
    else stop Wrong
text_call t m _ = stop Wrong

module _ (j : Sources) (inputs : Inputs) (low : Lower) (here : Here Name) where
  -- `C.m(..)`: a static method, or one of `Session`
  abbrev pub class_call : (class method : Name) → List Value → Run Shared (Option Value)
  class_call c m vs =
      if bytes_eq c (codes "Session") then (found (session_named m) >>= λ call. session inputs call vs)
      else low.call (c, m) None vs

  -- a call on a value: a text, or an object, which tells of the call
  abbrev pub value_call : Value → Name → List Value → Run Shared (Option Value)
  value_call (values.Text t) m vs = valuing (text_call (values.Text t) m vs)
  value_call v m vs = do
    o ← receiver v
    i ← object o
    telling o m (low.call (i.class, m) (Some o) vs)

  -- the receiver comes before the arguments
  abbrev pub member_call : Target → Run Shared Value → Name → Run Shared (List Value) → Run Shared (Option Value)
  member_call Own r m args = args >>= low.call (here.class, m) here.object
  member_call (OfClass c) r m args = args >>= class_call c m
  member_call OfValue r m args = do
    v ← r
    vs ← args
    value_call v m vs

  abbrev mutual
    -- an expression gives a value, or none where it calls a method without a result
    pub eval : Row Name → Expr → Run Shared (Option Value)
    eval locals (Int p z) = give (Some (values.Int z))
    eval locals (Truth p b) = give (Some (values.Truth b))
    eval locals (Text p t) = give (Some (values.Text t))
    eval locals (Null p) = give (Some values.Null)
    eval locals (This p) = stop Wrong
    eval locals (Variable p x) = valuing (read here x (referent j here locals x))
    eval locals (Member p e f) = valuing (member j here locals e f)
    eval locals (Neg p e) = valuing (valued (eval locals e) >>= negative)
    eval locals (Not p e) = valuing (valued (eval locals e) >>= opposite)
    eval locals (Binary p op l r) = valuing (binary (operator_of op) (valued (eval locals l)) (valued (eval locals r)))
    eval locals (Call p m args) = eval_all locals args >>= low.call (here.class, m) (passed here.object (method_of j (here.class, m)))
    eval locals (MethodCall p e m args) = member_call (target_of j here locals e) (valued (eval locals e)) m (eval_all locals args)
    eval locals (New p c) = do
      k ← found (class_named j c)
      row ← found (new_fields j k.fields)
      valuing (make (record { class = c; fields = row }))

    -- from left to right
    pub eval_all : Row Name → Exprs → Run Shared (List Value)
    eval_all locals NoExpr = give []
    eval_all locals (Argument e rest) = do
      v ← valued (eval locals e)
      vs ← eval_all locals rest
      give (v ∷ vs)

  -- Expressions in statements.

  abbrev pub value : Expr → Run (Lives Name) Value
  value e = within (λ locals. valued (eval locals e))

  abbrev pub test : Expr → Run (Lives Name) Bool
  test e = within (λ locals. valued (eval locals e) >>= truth)

  abbrev mutual
    pub exec : Stmt → Does Name
    exec (Block p body end) = exec_all body
    exec (Empty p) = give Normal
    exec (Local p ty x e) = value e >>= λ v. declared x v (give Normal)
    exec (Assign p target e) = value e >>= write here target
    exec (If p e s) = test e >>= λ t. if t then exec s else give Normal
    exec (IfElse p e s r) = test e >>= λ t. if t then exec s else exec r
    exec (While p l e s) = while_turn (mine l) (mine l) (test e) (exec s) (low.turn here (While p l e s))
    exec (Do p l s e) = do_turn (mine l) (mine l) (exec s) (test e) (low.turn here (Do p l s e))
    exec (Switch p e groups end) = do
      v ← within (λ locals. valued (eval locals e) >>= constant)
      k ← within (λ locals. found (enum_named j v.0))
      d ← if has_group (case_label k v.1) groups then exec_from (case_label k v.1) groups else exec_from is_default groups
      after_switch d
    exec (Break p l) = give (Breaks l)
    exec (Continue p l) = give (Continues l)
    exec (Return p None) = give (Returns None)
    exec (Return p (Some e)) = value e >>= λ v. give (Returns (Some v))
    exec (Print p e) = within (λ locals. valued (eval locals e) >>= print) >>= λ done. give Normal
    exec (Eval p e) = within (λ locals. eval locals e) >>= λ v. give Normal

    -- a declaration stands for the rest of its list
    pub exec_all : Stmts → Does Name
    exec_all NoStmt = give Normal
    exec_all (Then (Local p ty x e) rest) = value e >>= λ v. declared x v (exec_all rest)
    exec_all (Then s rest) = exec s >>= next_do (exec_all rest)

    -- from the first group with such a label on, each falling into the next
    pub exec_from : (Option Name → Bool) → Groups → Does Name
    exec_from wanted NoGroup = give Normal
    exec_from wanted (Group labels body end rest) =
        if any_label wanted labels then exec_all body >>= next_do (exec_groups rest) else exec_from wanted rest

    pub exec_groups : Groups → Does Name
    exec_groups NoGroup = give Normal
    exec_groups (Group labels body end rest) = exec_all body >>= next_do (exec_groups rest)

-- a program with what the other roles sent, as a language
abbrev pub language : Sources → Inputs → Language Name Called Stmt
language j inputs = record { method = method_of j; exec = exec j inputs }

-- what `main` of a class does with a budget, where there are no objects yet
abbrev pub mean : Sources → (class : Name) → Inputs → (budget : ℕ) → Ended
mean j class inputs n = ran (language j inputs) (main_of j class) n
