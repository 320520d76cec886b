-- Which instructions stand in the code of a method for each construct, and where: one case for each construct.
use Rattle.std.specs.Prelude.{◌≡◌, ℕ, pos, List, [], ◌∷◌, length, Bool, true, false, Option, Some, None, if◌then◌else◌}
use Rattle.jv_tree.specs.declared.tree.Op.{Op}
use Rattle.jv_tree.specs.declared.tree.Op.TheVariants as ops
use Rattle.jv_core.specs.declared.tree.Var.{Var}
use Rattle.jv_core.specs.declared.tree.Var.TheVariants as vars
use Rattle.jv_core.specs.declared.program.CoreType.{CoreType}
use Rattle.jv_core.specs.declared.program.CoreType.TheVariants as types
use Rattle.jv_core.specs.Tree.{Expr, Int, Truth, Text, Null, Variable, Constant, Neg}
use Rattle.jv_core.specs.Tree.{Not, Binary, Protocol, Helper, Static, Equals, Concat, Session, New}
use Rattle.jv_core.specs.Tree.{Exprs, NoExpr, Argument}
use Rattle.jv_core.specs.Tree.{Stmt, Block, Empty, Local, Assign, If, IfElse, While, Do, Switch, Break, Continue, Return, Print, Eval}
use Rattle.jv_core.specs.Tree.{Stmts, NoStmt, Then, Declare, Groups, NoGroup, Group, Method, Program}
use Rattle.jv_core.specs.Lookup.{variable_type}
use Rattle.gen_rules.specs.Symbolic.{Instr, push, push_truth, push_text, aconst_null, load, store, aload}
use Rattle.gen_rules.specs.Symbolic.{pop, dup, iadd, isub, imul, idiv, irem, ineg}
use Rattle.gen_rules.specs.Symbolic.{ifnull, ifnonnull, if_icmp, opposite, goto, tableswitch, return, return_value, is_reference}
use Rattle.gen_rules.specs.Symbolic.{getstatic, getfield, putfield, invokevirtual, invokespecial, invokestatic, new}
use Rattle.gen_rules.specs.Members.{class_name, field_reference, method_reference, init_of, session_reference}
use Rattle.gen_rules.specs.Members.{out_reference, println_reference, concat_reference, equals_reference, value_of_int, value_of_truth}
use Rattle.gen_rules.specs.Typed.{joins, type_of}
use Rattle.gen_rules.specs.Locals.{local_of, params_in_scope}
use Rattle.gen_rules.specs.Spans.{Span, nothing, ◌then◌, Forms, one, by_value, by_jumps}
use Rattle.gen_rules.specs.Around.{Around, break_to, continue_to}
use Rattle.gen_rules.specs.Around as around
use Rattle.gen_rules.specs.Cases.{default_at, positions, targets}

-- the type of a variable; in a core each has one
abbrev pub type_or_int : Option CoreType → CoreType
type_or_int None = types.Int
type_or_int (Some type) = type

-- which operand of a comparison is `null`: then the other one is a variable of a class
pub data Compared : Type 0 where
  Both : Compared
  LeftAlone : Compared
  RightAlone : Compared

abbrev pub compared : (left right : Expr) → Compared
compared a (Null q) = LeftAlone
compared (Null q) b = RightAlone
compared a b = Both

-- the code of a method of this program
module _ (p : Program) (m : Method) (code : List Instr) where
  abbrev pub variable_type_of : Var → CoreType
  variable_type_of x = type_or_int (variable_type p m x)

  -- a local: iload or aload; an own field: aload_0 getfield
  abbrev pub variable : (scope : List ℕ) → Var → Span
  variable scope (vars.Slot k) = one code (load (variable_type_of (vars.Slot k)) (local_of m.kind scope k))
  variable scope (vars.Field f) = one code (aload 0) then one code (getfield (field_reference p m.class f))

  -- makes a text of the value on top: String.valueOf for an int and for a truth value, and nothing for a text
  abbrev pub text : Option CoreType → Span
  text (Some types.Int) = one code (invokestatic value_of_int)
  text (Some types.Boolean) = one code (invokestatic value_of_truth)
  text _ = nothing

  -- a truth value that is written; its jumps are known
  abbrev pub literal : Bool → Forms
  literal true = record { value = one code (push_truth true); unless = λ l. nothing; when = λ l. one code (goto l) }
  literal false = record { value = one code (push_truth false); unless = λ l. one code (goto l); when = λ l. nothing }

  abbrev pub two_values : (left right : Forms) → Instr → Span
  two_values a b i = a.value then b.value then one code i

  -- `+` of ints, and `+` with a String on one side
  abbrev pub plus : Bool → (left right : Forms) → (left_type right_type : Option CoreType) → Span
  plus true a b s t = a.value then text s then b.value then text t then one code (invokevirtual concat_reference)
  plus false a b s t = two_values a b iadd

  -- `==` and `!=` with `null`
  abbrev pub with_null : Op → Span → Forms
  with_null ops.Ne v = by_jumps code (λ l. v then one code (ifnull l)) (λ l. v then one code (ifnonnull l))
  with_null _ v = by_jumps code (λ l. v then one code (ifnonnull l)) (λ l. v then one code (ifnull l))

  abbrev pub comparison : Op → Compared → (left right : Forms) → Forms
  comparison o Both a b = by_jumps code (λ l. two_values a b (if_icmp (opposite o) l)) (λ l. two_values a b (if_icmp o l))
  comparison o LeftAlone a b = with_null o a.value
  comparison o RightAlone a b = with_null o b.value

  -- `a && b`: J(a, L) J(b, L), and J(a, M) T(b, L) M:
  abbrev pub conjunction : (left right : Forms) → Forms
  conjunction a b = by_jumps code (λ l. a.unless l then b.unless l) (λ l from to. (a.unless to then b.when l) from to)

  -- `a || b`: T(a, M) J(b, L) M:, and T(a, L) T(b, L)
  abbrev pub disjunction : (left right : Forms) → Forms
  disjunction a b = by_jumps code (λ l from to. (a.when to then b.unless l) from to) (λ l. a.when l then b.when l)

  abbrev pub binary : Op → Compared → (left right : Forms) → (left_type right_type : Option CoreType) → Forms
  binary ops.Or c a b s t = disjunction a b
  binary ops.And c a b s t = conjunction a b
  binary ops.Add c a b s t = by_value code (plus (joins ops.Add s t) a b s t)
  binary ops.Sub c a b s t = by_value code (two_values a b isub)
  binary ops.Mul c a b s t = by_value code (two_values a b imul)
  binary ops.Div c a b s t = by_value code (two_values a b idiv)
  binary ops.Rem c a b s t = by_value code (two_values a b irem)
  binary o c a b s t = comparison o c a b

  abbrev mutual
    pub forms : (scope : List ℕ) → Expr → Forms
    forms scope (Int q n) = by_value code (one code (push n))
    forms scope (Truth q b) = literal b
    forms scope (Text q s) = by_value code (one code (push_text s))
    forms scope (Null q) = by_value code (one code aconst_null)
    forms scope (Variable q x) = by_value code (variable scope x)
    -- a constant of an enum is its position
    forms scope (Constant q e n) = by_value code (one code (push (pos n)))
    forms scope (Neg q a) = by_value code ((forms scope a).value then one code ineg)
    -- `!a`: T(a, L), and J(a, L)
    forms scope (Not q a) = by_jumps code ((forms scope a).when) ((forms scope a).unless)
    forms scope (Binary q o a b) = binary o (compared a b) (forms scope a) (forms scope b) (type_of p m a) (type_of p m b)
    forms scope (Protocol q x n args) =
        by_value code (variable scope x.var then arguments scope args then one code (invokevirtual (method_reference p n)))
    forms scope (Helper q n args) =
        by_value code (one code (aload 0) then arguments scope args then one code (invokespecial (method_reference p n)))
    forms scope (Static q n args) = by_value code (arguments scope args then one code (invokestatic (method_reference p n)))
    forms scope (Equals q a b) = by_value code (two_values (forms scope a) (forms scope b) (invokevirtual equals_reference))
    forms scope (Concat q a b) = by_value code (two_values (forms scope a) (forms scope b) (invokevirtual concat_reference))
    forms scope (Session q c args) = by_value code (arguments scope args then one code (invokestatic (session_reference p c)))
    forms scope (New q c) =
        by_value code (one code (new (class_name p c)) then one code dup then one code (invokespecial (init_of (class_name p c))))

    -- from left to right
    pub arguments : (scope : List ℕ) → Exprs → Span
    arguments scope NoExpr = nothing
    arguments scope (Argument e more) = (forms scope e).value then arguments scope more

  abbrev pub value : (scope : List ℕ) → Expr → Span
  value scope e = (forms scope e).value

  -- J and T
  abbrev pub unless : (scope : List ℕ) → Expr → (target : ℕ) → Span
  unless scope e = (forms scope e).unless

  abbrev pub when : (scope : List ℕ) → Expr → (target : ℕ) → Span
  when scope e = (forms scope e).when

  -- a slot that is in scope takes the value on top
  abbrev pub store_in : (scope : List ℕ) → (slot : ℕ) → Span
  store_in scope k = one code (store (variable_type_of (vars.Slot k)) (local_of m.kind scope k))

  -- V store, and aload_0 V putfield
  abbrev pub assign : (scope : List ℕ) → Var → Span → Span
  assign scope (vars.Slot k) v = v then store_in scope k
  assign scope (vars.Field f) v = one code (aload 0) then v then one code (putfield (field_reference p m.class f))

  -- drops the value of a call, where it has one
  abbrev pub discard : Option CoreType → Span
  discard (Some types.Void) = nothing
  discard _ = one code pop

  abbrev mutual
    -- the code of a statement, where these slots are in scope and this stands around it
    pub statement : (scope : List ℕ) → List Around → Stmt → Span
    statement scope ts (Block q body end) = statements scope ts body
    statement scope ts (Empty q) = nothing
    statement scope ts (Local q k e) = value scope e then store_in (k ∷ scope) k
    statement scope ts (Assign q x e) = assign scope x.var (value scope e)
    -- J(c, L) S, L:
    statement scope ts (If q c s) = λ from to. (unless scope c to then statement scope ts s) from to
    -- J(c, L) S goto M, L: T, M:
    statement scope ts (IfElse q c s r) = λ from to.
        (l : ℕ) × (unless scope c l then statement scope ts s then one code (goto to)) from l × statement scope ts r l to
    -- H: J(c, X) S goto H, X:
    statement scope ts (While q n c s) = λ from to.
        (unless scope c to then statement scope (around.Loop n to from ∷ ts) s then one code (goto from)) from to
    -- H: S, K: T(c, H), X:
    statement scope ts (Do q n s c) = λ from to.
        (k : ℕ) × statement scope (around.Loop n to k ∷ ts) s from k × when scope c from k to
    -- V tableswitch; groups; X:
    statement scope ts (Switch q e gs end) = λ from to. (starts : List ℕ) ×
        (value scope e
        then one code (tableswitch (default_at gs starts to) (targets gs starts to (positions p (type_of p m e))))
        then groups scope (around.Switch to ∷ ts) gs starts) from to
    statement scope ts (Break q n) = one code (goto (break_to ts n))
    statement scope ts (Continue q n) = one code (goto (continue_to ts n))
    statement scope ts (Return q None) = one code return
    statement scope ts (Return q (Some e)) = value scope e then one code (return_value m.result)
    statement scope ts (Print q e) =
        one code (getstatic out_reference) then value scope e then text (type_of p m e) then one code (invokevirtual println_reference)
    statement scope ts (Eval q e) = value scope e then discard (type_of p m e)

    pub statements : (scope : List ℕ) → List Around → Stmts → Span
    statements scope ts NoStmt = nothing
    statements scope ts (Then s more) = statement scope ts s then statements scope ts more
    statements scope ts (Declare q k e more) = value scope e then store_in (k ∷ scope) k then statements (k ∷ scope) ts more

    -- each group falls into the next; they begin at these places
    pub groups : (scope : List ℕ) → List Around → Groups → (starts : List ℕ) → Span
    groups scope ts NoGroup [] = nothing
    groups scope ts NoGroup (start ∷ starts) = λ from to. ⊥
    groups scope ts (Group labels body end more) [] = λ from to. ⊥
    groups scope ts (Group labels body end more) (start ∷ starts) = λ from to.
        (start ≡ from) × (statements scope ts body then groups scope ts more starts) from to

  -- the end of each method, whether it is reached or not: return, iconst_0 ireturn, or aconst_null areturn
  abbrev pub end_of_method : CoreType → Span
  end_of_method types.Void = one code return
  end_of_method type = one code (if is_reference type then aconst_null else push (pos 0)) then one code (return_value type)

  -- the method's whole code: its body, and its end
  pub record IsCode : Type 0 where
    pub stands : (statements (params_in_scope m) [] m.body then end_of_method m.result) 0 (length code)
