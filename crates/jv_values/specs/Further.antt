-- More budget: the same outcome, or a spent budget and more events.
use Rattle.std.specs.Prelude.{◌≡◌, ◌≢◌, ℕ, suc, List, Option}
use Rattle.mg_text.specs.declared.event.Event.{Event}
use Rattle.jv_values.specs.Values.{Value, More, Shared, Lives, Here, Method}
use Rattle.jv_values.specs.Doing.{Outcome, Gives, Ends, Run}
use Rattle.jv_values.specs.Statements.{Completion, Does}
use Rattle.jv_values.specs.Budget.{Below, Language, ran}
use Rattle.jv_values.specs.Alike.{Relation, Alike, Completes, FurtherEnd, Prefix}

-- an outcome after these events, with a value that some value is alike to
abbrev pub Onward : {S A A' : Type 0} → (of : S → List Event) → (A → A' → Type 0) → List Event → Outcome S A' → Type 0
Onward {A} of V from (Gives b t) = Prefix from (of t) × ((a : A) × V a b)
Onward of V from (Ends f events) = Prefix from events

-- from each state the same, or a spent budget and more events; and events only come behind those that there are
pub record Further {S : Type 0} (of : S → List Event) (A A' : Type 0) (V : A → A' → Type 0) (m : Run S A) (n : Run S A') : Type 0 where
  pub by : (s : S) → Alike ◌≡◌ V (FurtherEnd of) (m s) (n s)
  pub on : (s : S) → Onward of V (of s) (n s)

-- expressions, which change what is shared
abbrev pub FurtherShared : Relation Shared Shared
FurtherShared = Further (λ s. s.events)

-- statements
abbrev pub FurtherLives : (K : Type 0) → Relation (Lives K) (Lives K)
FurtherLives K = Further (λ s. s.shared.events)

abbrev pub FurtherCall : Run Shared (Option Value) → Run Shared (Option Value) → Type 0
FurtherCall = FurtherShared (Option Value) (Option Value) ◌≡◌

abbrev pub FurtherDoes : {K : Type 0} → Does K → Does K → Type 0
FurtherDoes {K} = FurtherLives K (Completion K) (Completion K) (Completes ◌≡◌ ◌≡◌)

-- what is below a budget, and what is below a greater one
pub record FurtherBelow {K M T : Type 0} (low high : Below K M T) : Type 0 where
  pub call : (m : M) (this : Option ℕ) (vs : List Value) → FurtherCall (low.call m this vs) (high.call m this vs)
  pub turn : (here : Here K) (t : T) → FurtherDoes (low.turn here t) (high.turn here t)

-- a language whose statements go further where what is below them does
abbrev pub IsMonotone : {K M T : Type 0} → Language K M T → Type 0
IsMonotone {K} {M} {T} l =
    (low high : Below K M T) → FurtherBelow low high → (here : Here K) (t : T) → FurtherDoes (l.exec low here t) (l.exec high here t)

-- With a greater budget what has ended is the same, and what has not goes on.
pub record GoesOn {K M T : Type 0} (l : Language K M T) (main : Option (Method K T)) (n : ℕ) : Type 0 where
  pub ended : (ran l main n).finish ≢ More → ran l main (suc n) ≡ ran l main n
  pub more : (ran l main n).finish ≡ More → Prefix (ran l main n).events (ran l main (suc n)).events

abbrev pub BudgetLaw : (K M T : Type 0) → Type 0
BudgetLaw K M T = (l : Language K M T) → IsMonotone l → (main : Option (Method K T)) (n : ℕ) → GoesOn l main n
