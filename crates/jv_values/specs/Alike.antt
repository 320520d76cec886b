-- One library for all laws that compare two meanings: relations between runs, and what is alike.
use Rattle.std.specs.Prelude.{◌≡◌, ◌⊎◌, ◌++◌, Bool, true, false, List, Option}
use Rattle.mg_text.specs.declared.event.Event.{Event}
use Rattle.jv_values.specs.Values.{Finish, More, Wrong, Shared, Instance}
use Rattle.jv_values.specs.Doing.{Outcome, Gives, Ends, Run, give, ◌>>=◌, stop, note, happened, objects, with_objects}
use Rattle.jv_values.specs.Statements.{Completion, Normal, Breaks, Continues, Returns}

-- a relation between runs, which says how the values that they give are related
abbrev pub Relation : Type 0 → Type 0 → Type 1
Relation S S' = (A A' : Type 0) → (A → A' → Type 0) → Run S A → Run S' A' → Type 0

-- what a law owes to the library: it goes on through `give` and `>>=`
pub record Closed {S S' : Type 0} (R : Relation S S') : Type 1 where
  pub give : {A A' : Type 0} {V : A → A' → Type 0} {a : A} {b : A'} → V a b → R A A' V (give a) (give b)
  pub bind : {A A' B B' : Type 0} {V : A → A' → Type 0} {W : B → B' → Type 0}
      {m : Run S A} {n : Run S' A'} {f : A → Run S B} {g : A' → Run S' B'} →
      R A A' V m n → ((a : A) (b : A') → V a b → R B B' W (f a) (g b)) → R B B' W (m >>= f) (n >>= g)

-- and for expressions: each of the five ways to objects and events is alike to itself
pub record Shares (R : Relation Shared Shared) : Type 1 where
  pub closed : Closed R
  pub stop : {A A' : Type 0} {V : A → A' → Type 0} (f : Finish) → R A A' V (stop f) (stop f)
  pub note : (e : Event) → R (Unit {0}) (Unit {0}) ◌≡◌ (note e) (note e)
  pub happened : R (List Event) (List Event) ◌≡◌ happened happened
  pub objects : R (List Instance) (List Instance) ◌≡◌ objects objects
  pub with_objects : (heap : List Instance) → R (Unit {0}) (Unit {0}) ◌≡◌ (with_objects heap) (with_objects heap)

-- outcomes: related values and states, or an end that fits the other outcome
abbrev pub Alike : {S S' A A' : Type 0} → (S → S' → Type 0) → (A → A' → Type 0) → (Finish → List Event → Outcome S' A' → Type 0) →
    Outcome S A → Outcome S' A' → Type 0
Alike state value ends (Gives a s) (Gives b t) = value a b × state s t
Alike state value ends (Gives a s) (Ends f events) = ⊥
Alike state value ends (Ends f events) o = ends f events o

-- both tests say yes, or both say no and the rest decides
abbrev pub Meet : Bool → Bool → Type 0 → Type 0
Meet true true rest = Unit {0}
Meet false false rest = rest
Meet true false rest = ⊥
Meet false true rest = ⊥

-- completions, with related exits
abbrev pub Completes : {K K' : Type 0} → (breaks continues : Option K → Option K' → Type 0) → Completion K → Completion K' → Type 0
Completes B C Normal Normal = Unit {0}
Completes B C (Breaks l) (Breaks k) = B l k
Completes B C (Continues l) (Continues k) = C l k
Completes B C (Returns v) (Returns w) = v ≡ w
Completes B C _ _ = ⊥

-- Two kinds of end.

-- the same, where it isn't Wrong
abbrev pub SameEnd : {S A : Type 0} → Finish → List Event → Outcome S A → Type 0
SameEnd f events o = (f ≡ Wrong) ⊎ (o ≡ Ends f events)

-- the events of an outcome; `of` gives those of a state
abbrev pub seen : {S A : Type 0} → (of : S → List Event) → Outcome S A → List Event
seen of (Gives a s) = of s
seen of (Ends f events) = events

-- b is a with later items
pub record Prefix {A : Type 0} (a b : List A) : Type 0 where
  pub later : List A
  pub is : b ≡ a ++ later

-- the same, or a spent budget and more events
abbrev pub FurtherEnd : {S A : Type 0} → (of : S → List Event) → Finish → List Event → Outcome S A → Type 0
FurtherEnd of f events o = (o ≡ Ends f events) ⊎ ((f ≡ More) × Prefix events (seen of o))
