-- Values as the code keeps them, and what the rules make of them.
use Rattle.std.specs.Prelude.{ℕ, Bool, true, false, List, [], Option, Some, None}
use Rattle.mg_text.specs.declared.place.Place.{Place}
use Rattle.ts_tree.specs.declared.parts.To.{To}
use Rattle.ts_tree.specs.Typestate.{Target}
use Rattle.jv_core.specs.declared.tree.CoreVar.{CoreVar}
use Rattle.jv_core.specs.declared.tree.Var.{Var}
use Rattle.jv_core.specs.Tree.{Expr, Variable, Null, Exprs, Method}
use Rattle.use_flow.specs.declared.evaluated.Ways.{Ways}
use Rattle.use_flow.specs.declared.evaluated.Ways.TheVariants as ways
use Rattle.use_flow.specs.declared.evaluated.Value.{Value}
use Rattle.use_flow.specs.declared.evaluated.Arguments.{Arguments}
use Rattle.use_flow.specs.declared.evaluated.NullTest.{NullTest}
use Rattle.use_rules.specs.Elements.{Set, targets}
use Rattle.use_rules.specs.State.{Now, Log, Argued, joined}
use Rattle.use_rules.specs.Flow as rules
use Rattle.use_flow.specs.View.{tables_of}
use Rattle.use_flow.specs.inner.Followed.{Followed, eval, eval_all}

abbrev pub yes_of : Ways → Now
yes_of (ways.Alike now) = now
yes_of (ways.Apart yes' no') = yes'

abbrev pub no_of : Ways → Now
no_of (ways.Alike now) = now
no_of (ways.Apart yes' no') = no'

abbrev pub evaluated_of : Value → Log → rules.Evaluated
evaluated_of v log = record { set = v.set; yes = yes_of v.ways; no = no_of v.ways; log = log }

abbrev pub argued_of : Arguments → Log → Argued
argued_of a log = record { sets = a.sets; now = a.now; log = log }

abbrev pub test_of : NullTest → rules.NullTest
test_of t = record { variable = t.variable; holds = t.holds }

abbrev pub null_tested : Followed → rules.NullTest → List Set → Log → rules.Evaluated
null_tested s = rules.null_tested s.program s.contexts s.context s.method

abbrev pub read : Followed → Place → Var → List Set → Log → rules.Evaluated
read s = rules.read s.program s.contexts s.context s.method

abbrev pub protocol_call : Followed → (Target → List To) → CoreVar → (method : ℕ) → Method → List Set → Now → Log → rules.Evaluated
protocol_call s = rules.protocol_call s.program s.contexts s.context s.method (tables_of s.held)

abbrev pub static_call : Followed → (method : ℕ) → Method → List Set → Now → Log → rules.Evaluated
static_call s = rules.static_call s.program s.contexts s.context s.method (tables_of s.held)

abbrev pub helper_call : Followed → (method : ℕ) → Method → List Set → Now → Log → rules.Evaluated
helper_call s = rules.helper_call s.program s.contexts s.context s.method (tables_of s.held)

-- the variable that an expression is
abbrev pub variable_in : Expr → Option Var
variable_in (Variable q x) = Some x
variable_in _ = None

abbrev pub is_null : Expr → Bool
is_null (Null q) = true
is_null _ = false

-- no object, and alike both ways
abbrev pub settled : rules.Evaluated → rules.Evaluated
settled v = rules.alike [] (joined v.yes v.no) v.log

-- a condition, which has no object
abbrev pub parted : Now → Now → Log → rules.Evaluated
parted holds fails log = record { set = []; yes = holds; no = fails; log = log }

abbrev pub both_ways : rules.Evaluated → rules.Evaluated
both_ways v = parted v.yes v.no v.log

-- behind the second operand of `&&`, where the first fails so
abbrev pub both_with : (fails : Now) → rules.Evaluated → rules.Evaluated
both_with fails v = parted v.yes (joined fails v.no) v.log

-- behind the second operand of `||`, where the first holds so
abbrev pub either_with : (holds : Now) → rules.Evaluated → rules.Evaluated
either_with holds v = parted (joined holds v.yes) v.no v.log

abbrev pub turned : rules.Evaluated → rules.Evaluated
turned v = record { set = []; yes = v.no; no = v.yes; log = v.log }

abbrev pub opposite : Followed → Expr → List Set → Log → rules.Evaluated
opposite s e sets log = turned (eval s 0 e (Some sets) log)

-- what comes behind arguments
abbrev pub behind : Argued → rules.Evaluated
behind a = rules.alike [] a.now a.log

-- Operands, one after the other.

abbrev pub operands : Followed → Expr → Expr → List Set → Log → rules.Evaluated
operands s l r sets log =
    let a = eval s 0 l (Some sets) log in
    let b = eval s 0 r (joined a.yes a.no) a.log in
    rules.alike [] (joined b.yes b.no) b.log

abbrev pub conjunction : Followed → Expr → Expr → List Set → Log → rules.Evaluated
conjunction s l r sets log =
    let a = eval s 0 l (Some sets) log in
    let b = eval s 0 r a.yes a.log in
    record { set = []; yes = b.yes; no = joined a.no b.no; log = b.log }

abbrev pub disjunction : Followed → Expr → Expr → List Set → Log → rules.Evaluated
disjunction s l r sets log =
    let a = eval s 0 l (Some sets) log in
    let b = eval s 0 r a.no a.log in
    record { set = []; yes = joined a.yes b.yes; no = b.no; log = b.log }

-- Calls with their arguments.

abbrev pub widths_of : Followed → (method : ℕ) → List ℕ
widths_of s = rules.widths_of s.program s.contexts s.context s.method

abbrev pub called : Followed → (method : ℕ) → (Method → List Set → Now → Log → rules.Evaluated) → Argued → rules.Evaluated
called s = rules.called s.program s.contexts s.context s.method (tables_of s.held)

abbrev pub called_protocol : Followed → CoreVar → (method : ℕ) → Exprs → List Set → Log → rules.Evaluated
called_protocol s x n args sets log = called s n (protocol_call s targets x n) (eval_all s (widths_of s n) args (Some sets) log)

abbrev pub called_helper : Followed → (method : ℕ) → Exprs → List Set → Log → rules.Evaluated
called_helper s n args sets log = called s n (helper_call s n) (eval_all s (widths_of s n) args (Some sets) log)

abbrev pub called_static : Followed → (method : ℕ) → Exprs → List Set → Log → rules.Evaluated
called_static s n args sets log = called s n (static_call s n) (eval_all s (widths_of s n) args (Some sets) log)
