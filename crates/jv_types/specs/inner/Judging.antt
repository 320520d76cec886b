-- What is found in expressions: a fault, or a type.
use Rattle.std.specs.Prelude.{◌≡◌, List, [], ◌∷◌, Option, Some, None, Result, MatchResult, Bool, true, false, not, if◌then◌else◌}
use Rattle.std.specs.Option.{option_or}
use Rattle.mg_text.specs.Call.{Name}
use Rattle.mg_text.specs.declared.place.Place.{Place}
use Rattle.mg_read.specs.Culprit.{Culprit, culprit}
use Rattle.jv_tree.specs.declared.tree.Op.{Op}
use Rattle.jv_tree.specs.declared.tree.Op.TheVariants as ops
use Rattle.jv_tree.specs.Source.{Expr, This, Variable, Exprs, NoExpr, Argument, place_of}
use Rattle.jv_rules.specs.declared.condition.Condition.{Condition}
use Rattle.jv_rules.specs.Types.{ValueType, IntType, BooleanType, EnumType, ClassType, NullType}
use Rattle.jv_rules.specs.Scope.{Scope, is_variable}
use Rattle.jv_rules.specs.Typing.{type_of, is_text}
use Rattle.jv_rules.specs.Spots.{expr_spots, at_nodes, nodes_in}
use Rattle.jv_rules.specs.Taking.{Wanted, Fitting, Writable, ClassVariable}
use Rattle.jv_rules.specs.inner.Deciding.{suits, when, fault_in, calls_helper}
use Rattle.jv_types.specs.declared.judged.Wrong.{Wrong}
use Rattle.jv_types.specs.declared.judged.Wrong.TheVariants as wrongs
use Rattle.jv_types.specs.declared.judged.Checked.{Checked}
use Rattle.jv_types.specs.inner.View.{type_seen}

abbrev pub expr_fault : Scope → Expr → Option (Condition × Culprit)
expr_fault scope e = fault_in (expr_spots scope e)

abbrev pub args_fault : Scope → Exprs → Option (Condition × Culprit)
args_fault scope args = fault_in (at_nodes scope (nodes_in args))

-- an error tells this fault; want of memory may come at any point
abbrev pub Tells : Wrong → Option (Condition × Culprit) → Type 0
Tells wrongs.Memory r = Unit {0}
Tells (wrongs.Fault k p n) r = r ≡ Some (k, culprit p n.now)

-- an error tells one of these faults
abbrev pub TellsOne : (Option (Condition × Culprit) → Type 0) → Wrong → Type 0
TellsOne Is wrongs.Memory = Unit {0}
TellsOne Is (wrongs.Fault k p n) = Is (Some (k, culprit p n.now))

-- nothing is wrong with an expression, and this is its type
pub record IsChecked (scope : Scope) (e : Expr) (c : Checked) : Type 0 where
  pub fine : expr_fault scope e ≡ None
  pub typed : type_of scope e ≡ Some (type_seen c.ty)
  pub helper : c.helper ≡ calls_helper scope e

-- what judging an expression answers
abbrev pub Judges : Scope → Expr → Result Checked Wrong → Type 0
Judges scope e result = MatchResult result (λ c. IsChecked scope e c) (λ w. Tells w (expr_fault scope e))

-- a value of this type isn't what is wanted
abbrev pub misfit : Wanted → Expr → ValueType → Option Culprit
misfit wanted e given = when (not (suits wanted e given)) (culprit (place_of e) [])

-- the first operand of a wrong type, of operands of these types
abbrev pub misfits : ValueType → Expr → ValueType → Expr → ValueType → Option Culprit
misfits type l s r t = option_or (misfit (Fitting type) l s) (misfit (Fitting type) r t)

abbrev pub added_misfit : Expr → ValueType → Expr → ValueType → Option Culprit
added_misfit l s r t =
    if is_text (Some s) then misfit Writable r t else if is_text (Some t) then misfit Writable l s else misfits IntType l s r t

abbrev pub compared_misfit : Expr → ValueType → Expr → ValueType → Option Culprit
compared_misfit l IntType r t = misfit (Fitting IntType) r t
compared_misfit l BooleanType r t = misfit (Fitting BooleanType) r t
compared_misfit l (EnumType name) r t = misfit (Fitting (EnumType name)) r t
compared_misfit l NullType r t = misfit ClassVariable r t
compared_misfit l (ClassType name) r t = if is_variable l then misfit (Fitting NullType) r t else Some (culprit (place_of l) [])
compared_misfit l _ r t = Some (culprit (place_of l) [])

abbrev pub operand_misfit : Op → Expr → ValueType → Expr → ValueType → Option Culprit
operand_misfit ops.Or l s r t = misfits BooleanType l s r t
operand_misfit ops.And l s r t = misfits BooleanType l s r t
operand_misfit ops.Eq l s r t = compared_misfit l s r t
operand_misfit ops.Ne l s r t = compared_misfit l s r t
operand_misfit ops.Lt l s r t = misfits IntType l s r t
operand_misfit ops.Le l s r t = misfits IntType l s r t
operand_misfit ops.Gt l s r t = misfits IntType l s r t
operand_misfit ops.Ge l s r t = misfits IntType l s r t
operand_misfit ops.Add l s r t = added_misfit l s r t
operand_misfit ops.Sub l s r t = misfits IntType l s r t
operand_misfit ops.Mul l s r t = misfits IntType l s r t
operand_misfit ops.Div l s r t = misfits IntType l s r t
operand_misfit ops.Rem l s r t = misfits IntType l s r t

abbrev pub at_place : Place → Culprit
at_place p = culprit p []

abbrev pub is_this : Expr → Bool
is_this (This p) = true
is_this _ = false

-- the name that an expression is
abbrev pub variable_name : Expr → Option Name
variable_name (Variable p x) = Some x
variable_name _ = None

-- the first argument of a wrong type, of arguments of these types; one without a parameter isn't compared
abbrev pub args_misfit : Exprs → List ValueType → List ValueType → Option Culprit
args_misfit NoExpr params types = None
args_misfit (Argument e more) [] types = None
args_misfit (Argument e more) (p ∷ ps) [] = None
args_misfit (Argument e more) (p ∷ ps) (t ∷ ts) = option_or (misfit (Fitting p) e t) (args_misfit more ps ts)
