-- What is judged at a statement, once nothing is wrong with its operands.
use Rattle.std.specs.Prelude.{◌≡◌, List, [], ◌∷◌, ◌++◌, map, Option, Some, None, Bool, true, if◌then◌else◌, Result, MatchResult}
use Rattle.std.specs.Option.{option_or}
use Rattle.mg_text.specs.Call.{Name}
use Rattle.mg_text.specs.declared.place.Place.{Place}
use Rattle.mg_read.specs.Culprit.{Culprit, culprit}
use Rattle.ts_tree.specs.declared.parts.TypeName.{TypeName}
use Rattle.jv_tree.specs.declared.tree.Param.{Param}
use Rattle.jv_tree.specs.Source.{Expr, Stmt, Stmts, Groups, Local}
use Rattle.jv_rules.specs.declared.condition.Condition.{Condition}
use Rattle.jv_rules.specs.declared.condition.Condition.TheVariants as conditions
use Rattle.jv_rules.specs.Types.{ValueType, NoValue, BooleanType}
use Rattle.jv_rules.specs.Scope.{Scope}
use Rattle.mg_read.specs.First.{with_earlier}
use Rattle.jv_types.specs.inner.Blaming.{is_in}
use Rattle.jv_rules.specs.Conditions.{LoopAt, CaseAt, cases}
use Rattle.jv_rules.specs.Spots.{stmt_spots, stmts_spots, group_spots, param_spots}
use Rattle.jv_rules.specs.Taking as rules
use Rattle.jv_rules.specs.inner.Deciding.{told, first_by, type_mismatch, bad_label, fault_in}
use Rattle.jv_types.specs.declared.judged.Wrong.{Wrong}
use Rattle.jv_types.specs.declared.simple.Written.{Written as KeptWritten}
use Rattle.jv_types.specs.declared.values.Wanted.{Wanted}
use Rattle.jv_types.specs.declared.values.Wanted.TheVariants as kept
use Rattle.jv_types.specs.inner.View.{type_seen}
use Rattle.jv_types.specs.inner.Judging.{Tells, expr_fault}

abbrev pub wanted_seen : Wanted → rules.Wanted
wanted_seen (kept.Fitting t) = rules.Fitting (type_seen t)
wanted_seen kept.Writable = rules.Writable
wanted_seen kept.AnyEnum = rules.AnyEnum
wanted_seen kept.Nothing = rules.Nothing

abbrev pub stmt_fault : Scope → Stmt → Option (Condition × Culprit)
stmt_fault scope s = fault_in (stmt_spots scope s)

abbrev pub stmts_fault : Scope → Stmts → Option (Condition × Culprit)
stmts_fault scope ss = fault_in (stmts_spots scope ss)

abbrev pub groups_fault : Scope → Groups → Option (Condition × Culprit)
groups_fault scope groups = fault_in (group_spots scope groups)

-- what a value that is taken tells: a fault in it, or that its type isn't what is wanted
abbrev pub value_told : Scope → Expr → rules.Wanted → Option (Condition × Culprit)
value_told scope e wanted =
    option_or (expr_fault scope e)
    (told conditions.TypeMismatch (first_by type_mismatch (rules.all_taken scope (rules.taken e wanted ∷ []))) None)

-- nothing is wrong, or this is
abbrev pub Answers : Option (Condition × Culprit) → Result Unit Wrong → Type 0
Answers fault result = MatchResult result (λ u. fault ≡ None) (λ w. Tells w fault)

-- what is told of the label of a loop
abbrev pub label_told : Scope → Place → Option Name → Option (Condition × Culprit)
label_told scope p label = told conditions.BadLabel (bad_label (LoopAt scope p label)) None

-- what `return` takes in a method with this result
abbrev pub returned_wanted : ValueType → rules.Wanted
returned_wanted NoValue = rules.Nothing
returned_wanted type = rules.Fitting type

-- what `return` without a value tells, where this is what is taken
abbrev pub nothing_told : Place → rules.Wanted → Option (Condition × Culprit)
nothing_told p rules.Nothing = None
nothing_told p _ = Some (conditions.TypeMismatch, culprit p [])

-- the local that a statement declares
pub record Written : Type 0 where
  pub ty : TypeName
  pub name : Name

abbrev pub written : TypeName → Name → Written
written ty name = record { ty = ty; name = name }

abbrev pub written_in : Stmt → Option Written
written_in (Local p ty name e) = Some (written ty name)
written_in _ = None

abbrev pub written_seen : KeptWritten → Written
written_seen w = written w.ty.now w.name.now

-- some locals, and more that were declared behind them
pub record Extends {A : Type 0} (old new : List A) : Type 0 where
  pub more : List A
  pub is : new ≡ more ++ old

-- what is told of the cases and defaults of a switch
abbrev pub cases_told : Scope → Place → Expr → Groups → Option (Condition × Culprit)
cases_told scope p e groups = told conditions.BadLabel (first_by bad_label (map (CaseAt scope p e) (with_earlier (cases groups)))) None

-- what is told of a switch but for its statements
abbrev pub choice_told : Scope → Place → Expr → Groups → Option (Condition × Culprit)
choice_told scope p e groups = option_or (value_told scope e rules.AnyEnum) (cases_told scope p e groups)

-- the first case that was met or isn't one of the enum's constants, or the first default behind another
abbrev pub bad_case : (Name → Bool) → List Name → Bool → List (Option Name) → Option Name
bad_case is_case met default [] = None
bad_case is_case met default (None ∷ labels) = if default then Some [] else bad_case is_case met true labels
bad_case is_case met default (Some name ∷ labels) =
    if is_in met name then Some name else if is_case name then bad_case is_case (met ++ name ∷ []) default labels else Some name

-- what is told of a loop but for its statement
abbrev pub loop_told : Scope → Place → Option Name → Expr → Option (Condition × Culprit)
loop_told scope p label c = option_or (value_told scope c (rules.Fitting BooleanType)) (label_told scope p label)

-- what is told of parameters
abbrev pub params_fault : Scope → List Param → Option (Condition × Culprit)
params_fault scope params = fault_in (param_spots scope params)
