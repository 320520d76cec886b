-- What is judged at a call, once its receiver and its arguments are fine.
use Rattle.std.specs.Prelude.{◌≡◌, List, [], ◌∷◌, ◌++◌, map, length, Option, Some, None, option_map, Result, MatchResult, Bool, true, false}
use Rattle.std.specs.Prelude.{not, ◌||◌, ◌==◌}
use Rattle.std.specs.Option.{option_or}
use Rattle.mg_text.specs.Call.{Name}
use Rattle.mg_text.specs.declared.place.Place.{Place}
use Rattle.mg_read.specs.Culprit.{Culprit, culprit}
use Rattle.jv_tree.specs.Source.{Expr, MethodCall, Exprs, NoExpr, Argument, Field}
use Rattle.jv_tree.specs.View.{field_of}
use Rattle.jv_rules.specs.declared.condition.Condition.{Condition}
use Rattle.jv_rules.specs.declared.condition.Condition.TheVariants as conditions
use Rattle.jv_rules.specs.Types.{ValueType, ClassType, Signature}
use Rattle.jv_rules.specs.Scope.{Scope, own_field, local_named, variable_type}
use Rattle.jv_rules.specs.Typing.{type_of, called_on_class, called_on_value}
use Rattle.jv_rules.specs.Taking.{ClassVariable, all_taken, paired, count_of}
use Rattle.jv_rules.specs.inner.Deciding.{when, told, first_by, type_mismatch, is_receiver, calls_helper, calls_helper_in}
use Rattle.jv_types.specs.declared.judged.Wrong.{Wrong}
use Rattle.jv_types.specs.declared.calls.Given.{Given}
use Rattle.jv_types.specs.declared.calls.Site.{Site}
use Rattle.jv_types.specs.declared.calls.Receiver.{Receiver}
use Rattle.jv_types.specs.declared.calls.Receiver.TheVariants as kept
use Rattle.jv_types.specs.inner.View.{type_seen}
use Rattle.jv_types.specs.inner.Judging.{Tells, IsChecked, expr_fault, args_fault, misfit, args_misfit, at_place, is_this, variable_name}

abbrev pub types_in : Scope → Exprs → List (Option ValueType)
types_in scope NoExpr = []
types_in scope (Argument e more) = type_of scope e ∷ types_in scope more

-- nothing is wrong with arguments, and these are their types
pub record AreChecked (scope : Scope) (args : Exprs) (g : Given) : Type 0 where
  pub fine : args_fault scope args ≡ None
  pub typed : types_in scope args ≡ map (λ t. Some (type_seen t)) g.types.items
  pub helper : g.helper ≡ calls_helper_in scope args

-- what judging arguments answers
abbrev pub JudgesAll : Scope → Exprs → Result Given Wrong → Type 0
JudgesAll scope args result = MatchResult result (λ g. AreChecked scope args g) (λ w. Tells w (args_fault scope args))

-- an own field on which a call may move what it has, as a helper is called in the arguments
abbrev pub moved : Place → Option Field → Bool → Option Culprit
moved p o helper = elim o [ None ↦ None | Some f ↦ when helper (culprit p f.name) ]

-- a receiver of a class that is no variable
abbrev pub receiver_misfit : ValueType → Expr → Option Culprit
receiver_misfit (ClassType name) e = misfit ClassVariable e (ClassType name)
receiver_misfit _ e = None

-- the own field that a name is
abbrev pub field_named_by : Scope → Name → Option Field
field_named_by scope name = elim (local_named scope name) [ None ↦ own_field scope name | Some d ↦ None ]

-- what `x.name(..)` calls
abbrev pub called_on_named : Scope → Name → Name → Option Signature
called_on_named scope x name = elim (variable_type scope x) [
  | None ↦ called_on_class scope.program x name
  | Some type ↦ called_on_value
      scope.program type name
]

-- what is told of a call: a type that differs, else another number, else that it is one of the own protocol, else that it may move a field
abbrev pub call_told : Place → (mismatch : Option Culprit) → (counted : Bool) → (own moves : Option Culprit) → Option (Condition × Culprit)
call_told p mismatch counted own moves =
    told conditions.TypeMismatch mismatch (told conditions.Arity (when (not counted) (culprit p []))
    (told conditions.SelfCall own (told conditions.ArgsMayMove moves None)))

abbrev pub own_told : Site → Option Culprit
own_told site = when site.is_own (culprit site.place site.name.now)

abbrev pub moves_told : Site → Bool → Option Culprit
moves_told site helper = moved site.place (option_map (λ f. field_of f.now) site.field) helper

-- what is told of a call of a method with these parameters, with arguments of these types, in which a helper is called or not
abbrev pub site_told : Site → Exprs → (params types : List ValueType) → Bool → Option (Condition × Culprit)
site_told site args params types helper =
    call_told site.place (option_or (option_map at_place site.receiver) (args_misfit args params types)) (count_of args == length params)
    (own_told site) (moves_told site helper)

-- what is told of a call of a method of this signature
abbrev pub method_told : Scope → Site → Exprs → Signature → Option (Condition × Culprit)
method_told scope site args s =
    call_told site.place (option_or (option_map at_place site.receiver) (first_by type_mismatch (all_taken scope (paired args s.params))))
    (count_of args == length s.params)
    (own_told site) (moves_told site (calls_helper_in scope args))

-- an expression is this call, of a method of this signature or of none, once its receiver is fine
pub record IsSite (scope : Scope) (e : Expr) (site : Site) (o : Option Signature) (args : Exprs) : Type 0 where
  pub unknown : o ≡ None → expr_fault scope e ≡ option_or (args_fault scope args)
      (Some (conditions.UnknownName, culprit site.place site.name.now))
  pub known : (s : Signature) → o ≡ Some s → expr_fault scope e ≡ option_or (args_fault scope args) (method_told scope site args s)
  pub typed : type_of scope e ≡ option_map (λ s. s.result) o
  pub helper : calls_helper scope e ≡ (site.helper || calls_helper_in scope args)

-- arguments judged in part: what is left to judge, and what the others give
pub record AreLeft (scope : Scope) (all rest : Exprs) (g : Given) : Type 0 where
  pub fault : args_fault scope all ≡ args_fault scope rest
  pub typed : types_in scope all ≡ map (λ t. Some (type_seen t)) g.types.items ++ types_in scope rest
  pub helper : calls_helper_in scope all ≡ (g.helper || calls_helper_in scope rest)

-- nothing is wrong with what stands before `.name(..)`, and this is what it is
abbrev pub ReceiverIs : Scope → Expr → Receiver → Type 0
ReceiverIs scope e kept.Own = is_this e ≡ true
ReceiverIs scope e (kept.Named x) = (variable_name e ≡ Some x.now) × (is_receiver scope x.now ≡ true)
ReceiverIs scope e (kept.Value c) = (is_this e ≡ false) × ((variable_name e ≡ None) × IsChecked scope e c)

-- what judging it answers: what is wrong with it is wrong with each call on it
abbrev pub JudgesReceiver : Scope → Expr → Result Receiver Wrong → Type 0
JudgesReceiver scope e result =
    MatchResult result (λ r. ReceiverIs scope e r) (λ w. (p : Place) (n : Name) (args : Exprs) →
    Tells w (expr_fault scope (MethodCall p e n args)))
