-- Code as it is written from left to right, where jumps lead to labels, and that of expressions and conditions.
-- A label gets its place when it is reached.
use Rattle.std.specs.Prelude.{ℕ, zero, suc, pos, List, [], ◌∷◌, ◌++◌, slice_set, length, Bool, true, false, Option, Some, not}
use Rattle.jv_tree.specs.declared.tree.Op.{Op}
use Rattle.jv_tree.specs.declared.tree.Op.TheVariants as ops
use Rattle.jv_core.specs.declared.tree.Var.{Var}
use Rattle.jv_core.specs.declared.tree.Var.TheVariants as vars
use Rattle.jv_core.specs.declared.program.CoreType.{CoreType}
use Rattle.jv_core.specs.declared.program.CoreType.TheVariants as types
use Rattle.jv_core.specs.Tree.{Expr, Int, Truth, Text, Null, Variable, Constant, Neg}
use Rattle.jv_core.specs.Tree.{Not, Binary, Protocol, Helper, Static, Equals, Concat, Session, New}
use Rattle.jv_core.specs.Tree.{Exprs, NoExpr, Argument, Method, Program}
use Rattle.jv_core.specs.Lookup.{variable_type}
use Rattle.gen_rules.specs.Symbolic.{Instr, push, push_truth, push_text, aconst_null, load, store, aload}
use Rattle.gen_rules.specs.Symbolic.{pop, dup, iadd, isub, imul, idiv, irem, ineg, ifeq, ifne}
use Rattle.gen_rules.specs.Symbolic.{jump as jump_to, opposite, goto, getfield, invokevirtual, invokespecial, invokestatic, new}
use Rattle.gen_rules.specs.Members.{class_name, field_reference, method_reference, init_of, session_reference}
use Rattle.gen_rules.specs.Members.{concat_reference, equals_reference, value_of_int, value_of_truth}
use Rattle.gen_rules.specs.Typed.{joins, type_of}
use Rattle.gen_rules.specs.Locals.{local_of}
use Rattle.gen_rules.specs.Templates.{type_or_int, Compared, Both, LeftAlone, RightAlone, compared}

-- the code so far, and the place of each label, which is 0 until it is known
pub record Draft : Type 0 where
  pub code : List Instr
  pub labels : List ℕ

abbrev pub Step : Type 0
Step = Draft → Draft

abbrev pub skip : Step
skip d = d

infixl 20 ◌then◌
abbrev pub ◌then◌ : Step → Step → Step
(a then b) d = b (a d)

unfoldable pub emit : Instr → Step
emit i d = record { code = d.code ++ i ∷ []; labels = d.labels }

-- the number of the next label
unfoldable pub next_label : Draft → ℕ
next_label d = length d.labels

-- with one more label, at a place
unfoldable pub with_label : (place : ℕ) → Step
with_label place d = record { code = d.code; labels = d.labels ++ place ∷ [] }

-- with one more label, which is here
unfoldable pub with_label_here : Step
with_label_here d = record { code = d.code; labels = d.labels ++ length d.code ∷ [] }

-- a label is here
unfoldable pub placed : (label : ℕ) → Step
placed l d = record { code = d.code; labels = slice_set d.labels l (length d.code) }

-- what may jump to a label behind it
abbrev pub ahead : ((label : ℕ) → Step) → Step
ahead f d = placed (next_label d) (f (next_label d) (with_label 0 d))

-- what may jump to a label in front of it
abbrev pub behind : ((label : ℕ) → Step) → Step
behind f d = f (next_label d) (with_label_here d)

-- with so many more labels
abbrev pub with_labels : (count : ℕ) → Step
with_labels zero d = d
with_labels (suc n) d = with_labels n (with_label 0 d)

-- The value of an expression, and a jump to a label where it is as is told.
pub record Forms : Type 0 where
  pub value : Step
  pub jump : (holds : Bool) → (label : ℕ) → Step

abbrev pub test : Bool → (label : ℕ) → Instr
test true l = ifne l
test false l = ifeq l

abbrev pub by_value : Step → Forms
by_value v = record { value = v; jump = λ h l. v then emit (test h l) }

-- 1 or 0, behind a jump to the first label where it is 0
abbrev pub truth_at : (fails end : ℕ) → Step
truth_at f n = emit (push (pos 1)) then emit (goto n) then placed f then emit (push (pos 0)) then placed n

abbrev pub truth_of : ((holds : Bool) → (label : ℕ) → Step) → Step
truth_of jump = ahead (λ n. ahead (λ f. jump false f then emit (push (pos 1)) then emit (goto n)) then emit (push (pos 0)))

abbrev pub by_jumps : ((holds : Bool) → (label : ℕ) → Step) → Forms
by_jumps jump = record { value = truth_of jump; jump = jump }

abbrev pub literal_jump : Bool → (holds : Bool) → (label : ℕ) → Step
literal_jump true true l = emit (goto l)
literal_jump true false l = skip
literal_jump false true l = skip
literal_jump false false l = emit (goto l)

abbrev pub literal : Bool → Forms
literal b = record { value = emit (push_truth b); jump = literal_jump b }

abbrev pub two_values : (left right : Forms) → Instr → Step
two_values a b i = a.value then b.value then emit i

abbrev pub null_op : Op → (holds : Bool) → ℕ
null_op ops.Ne true = 199
null_op ops.Ne false = 198
null_op _ true = 198
null_op _ false = 199

abbrev pub with_null : Op → Step → (holds : Bool) → (label : ℕ) → Step
with_null o v h l = v then emit (jump_to (null_op o h) l)

abbrev pub turned : Op → (holds : Bool) → Op
turned o true = o
turned o false = opposite o

abbrev pub icmp_op : Op → ℕ
icmp_op ops.Eq = 159
icmp_op ops.Ne = 160
icmp_op ops.Lt = 161
icmp_op ops.Ge = 162
icmp_op ops.Gt = 163
icmp_op ops.Le = 164
icmp_op _ = 159

abbrev pub compare_op : Op → (holds : Bool) → ℕ
compare_op o h = icmp_op (turned o h)

abbrev pub comparison : Op → Compared → (left right : Forms) → (holds : Bool) → (label : ℕ) → Step
comparison o Both a b h l = two_values a b (jump_to (compare_op o h) l)
comparison o LeftAlone a b h l = with_null o a.value h l
comparison o RightAlone a b h l = with_null o b.value h l

-- the first jumps past the second where it settles the whole
abbrev pub past : (first : (label : ℕ) → Step) → (second : Step) → Step
past first second = ahead (λ m. first m then second)

abbrev pub conjunction : (left right : Forms) → (holds : Bool) → (label : ℕ) → Step
conjunction a b false l = a.jump false l then b.jump false l
conjunction a b true l = past (a.jump false) (b.jump true l)

abbrev pub disjunction : (left right : Forms) → (holds : Bool) → (label : ℕ) → Step
disjunction a b false l = past (a.jump true) (b.jump false l)
disjunction a b true l = a.jump true l then b.jump true l

-- an operator that is a test
abbrev pub tested : Op → Compared → (left right : Forms) → (holds : Bool) → (label : ℕ) → Step
tested ops.Or c a b = disjunction a b
tested ops.And c a b = conjunction a b
tested o c a b = comparison o c a b

module _ (p : Program) (m : Method) where
  abbrev pub variable_type_of : Var → CoreType
  variable_type_of x = type_or_int (variable_type p m x)

  abbrev pub variable : (scope : List ℕ) → Var → Step
  variable scope (vars.Slot k) = emit (load (variable_type_of (vars.Slot k)) (local_of m.kind scope k))
  variable scope (vars.Field f) = emit (aload 0) then emit (getfield (field_reference p m.class f))

  abbrev pub text : Option CoreType → Step
  text (Some types.Int) = emit (invokestatic value_of_int)
  text (Some types.Boolean) = emit (invokestatic value_of_truth)
  text _ = skip

  abbrev pub plus : Bool → (left right : Forms) → (left_type right_type : Option CoreType) → Step
  plus true a b s t = a.value then text s then b.value then text t then emit (invokevirtual concat_reference)
  plus false a b s t = two_values a b iadd

  abbrev pub binary : Op → Compared → (left right : Forms) → (left_type right_type : Option CoreType) → Forms
  binary ops.Or c a b s t = by_jumps (tested ops.Or c a b)
  binary ops.And c a b s t = by_jumps (tested ops.And c a b)
  binary ops.Add c a b s t = by_value (plus (joins ops.Add s t) a b s t)
  binary ops.Sub c a b s t = by_value (two_values a b isub)
  binary ops.Mul c a b s t = by_value (two_values a b imul)
  binary ops.Div c a b s t = by_value (two_values a b idiv)
  binary ops.Rem c a b s t = by_value (two_values a b irem)
  binary o c a b s t = by_jumps (tested o c a b)

  abbrev mutual
    pub forms : (scope : List ℕ) → Expr → Forms
    forms scope (Int q n) = by_value (emit (push n))
    forms scope (Truth q b) = literal b
    forms scope (Text q s) = by_value (emit (push_text s))
    forms scope (Null q) = by_value (emit aconst_null)
    forms scope (Variable q x) = by_value (variable scope x)
    forms scope (Constant q e n) = by_value (emit (push (pos n)))
    forms scope (Neg q a) = by_value ((forms scope a).value then emit ineg)
    forms scope (Not q a) = by_jumps (λ h l. (forms scope a).jump (not h) l)
    forms scope (Binary q o a b) = binary o (compared a b) (forms scope a) (forms scope b) (type_of p m a) (type_of p m b)
    forms scope (Protocol q x n args) =
        by_value (variable scope x.var then arguments scope args then emit (invokevirtual (method_reference p n)))
    forms scope (Helper q n args) =
        by_value (emit (aload 0) then arguments scope args then emit (invokespecial (method_reference p n)))
    forms scope (Static q n args) = by_value (arguments scope args then emit (invokestatic (method_reference p n)))
    forms scope (Equals q a b) = by_value (two_values (forms scope a) (forms scope b) (invokevirtual equals_reference))
    forms scope (Concat q a b) = by_value (two_values (forms scope a) (forms scope b) (invokevirtual concat_reference))
    forms scope (Session q c args) = by_value (arguments scope args then emit (invokestatic (session_reference p c)))
    forms scope (New q c) =
        by_value (emit (new (class_name p c)) then emit dup then emit (invokespecial (init_of (class_name p c))))

    pub arguments : (scope : List ℕ) → Exprs → Step
    arguments scope NoExpr = skip
    arguments scope (Argument e more) = (forms scope e).value then arguments scope more

  abbrev pub value : (scope : List ℕ) → Expr → Step
  value scope e = (forms scope e).value

  abbrev pub jump : (scope : List ℕ) → Expr → (holds : Bool) → (label : ℕ) → Step
  jump scope e = (forms scope e).jump

  abbrev pub store_in : (scope : List ℕ) → (slot : ℕ) → Step
  store_in scope k = emit (store (variable_type_of (vars.Slot k)) (local_of m.kind scope k))

  abbrev pub discard : Option CoreType → Step
  discard (Some types.Void) = skip
  discard _ = emit pop

  abbrev pub tested_binary : (scope : List ℕ) → Op → (left right : Expr) → (holds : Bool) → (label : ℕ) → Step
  tested_binary scope o a b = tested o (compared a b) (forms scope a) (forms scope b)

  abbrev pub summed : (scope : List ℕ) → (left right : Expr) → Step
  summed scope a b = plus (joins ops.Add (type_of p m a) (type_of p m b)) (forms scope a) (forms scope b) (type_of p m a) (type_of p m b)

  abbrev pub created : (class : ℕ) → Step
  created c = emit (new (class_name p c)) then emit dup then emit (invokespecial (init_of (class_name p c)))
