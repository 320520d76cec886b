-- Budgets: the meaning with a budget of all, from the meanings of bodies and statements over what is below.
-- The body of a called method, and each later turn of a loop, have one less; all other parts have the whole budget.
use Rattle.std.specs.Prelude.{ℕ, zero, suc, List, [], Option, None}
use Rattle.jv_values.specs.Values.{Value, Shared, Here, Method, Ended, Done, More}
use Rattle.jv_values.specs.Doing.{Run, Outcome, Gives, Ends, stop, within}
use Rattle.jv_values.specs.Statements.{Does}
use Rattle.jv_values.specs.Calls.{called}

-- What is meant with one less: the body of a called method, and a later turn of a loop. M names methods, T is the tree of statements.
pub record Below (K M T : Type 0) : Type 0 where
  pub call : M → (this : Option ℕ) → List Value → Run Shared (Option Value)
  pub turn : Here K → T → Does K

-- a language: its methods, and what a statement does over what is meant below
pub record Language (K M T : Type 0) : Type 0 where
  pub method : M → Option (Method K T)
  pub exec : Below K M T → Here K → T → Does K

-- what is below a budget
abbrev pub below : {K M T : Type 0} → Language K M T → ℕ → Below K M T
below l zero = record { call = λ m this args. stop More; turn = λ here t. within (λ locals. stop More) }
below l (suc n) = record { call = λ m this args. called (l.exec (below l n)) (l.method m) this args; turn = l.exec (below l n) }

abbrev pub ended : Outcome Shared (Option Value) → Ended
ended (Gives v s) = record { events = s.events; finish = Done }
ended (Ends f events) = record { events = events; finish = f }

-- what a method does with a budget, on no object and without arguments, where there are no objects yet
abbrev pub ran : {K M T : Type 0} → Language K M T → (main : Option (Method K T)) → (budget : ℕ) → Ended
ran l main n = ended (called (l.exec (below l n)) main None [] (record { heap = []; events = [] }))
