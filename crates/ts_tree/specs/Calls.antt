-- Which calls a typestate allows.
use Rattle.std.specs.Prelude.{◌≡◌, ℕ, Bool, true, false, List, [], ◌∷◌, Option, Some, None, IfSome, IsSome, slice_get, option_and_then}
use Rattle.std.specs.Prelude.{if◌then◌else◌}
use Rattle.std.specs.List.{AllByRecursion}
use Rattle.std.specs.Str.{bytes_eq}
use Rattle.mg_text.specs.Call.{Name, Call}
use Rattle.ts_tree.specs.declared.parts.To.{To}
use Rattle.ts_tree.specs.declared.parts.To.TheVariants as tos
use Rattle.ts_tree.specs.declared.parts.Branch.{Branch}
use Rattle.ts_tree.specs.declared.parts.TypeName.TheVariants as types
use Rattle.ts_tree.specs.Typestate.{Target, One, ByAnswer, Method, Typestate}
use Rattle.ts_tree.specs.Proper.{IsOffered}

-- the first state, or the end where there is none
abbrev pub initial : Typestate → To
initial t = elim t.states [ [] ↦ tos.End | s ∷ ss ↦ tos.State 0 ]

-- where the label leads
abbrev pub by_label : List Branch → Name → Option To
by_label [] label = None
by_label (b ∷ bs) label = if bytes_eq b.label label then Some b.to else by_label bs label

-- where a call leads that answers so
abbrev pub led_by : Target → Option Name → Option To
led_by (One to) answer = Some to
led_by (ByAnswer branches) None = None
led_by (ByAnswer branches) (Some label) = by_label branches label

-- the method of this name
abbrev pub offered_in : List Method → Name → Option Method
offered_in [] name = None
offered_in (m ∷ ms) name = if bytes_eq m.name name then Some m else offered_in ms name

-- the method of this name that a state offers
abbrev pub offered : Typestate → ℕ → Name → Option Method
offered t q name = option_and_then (λ s. offered_in s.methods name) (slice_get t.states q)

-- where a call of a method leads from a state, if it answers so
abbrev pub next : Typestate → ℕ → Name → Option Name → Option To
next t q name answer = option_and_then (λ m. led_by m.target answer) (offered t q name)

-- the same from a place; the end offers nothing
abbrev pub next_from : Typestate → To → Call → Option To
next_from t (tos.State q) call = next t q call.method call.answer
next_from t tos.End call = None

-- where calls lead, one after another
abbrev pub led : Typestate → To → List Call → Option To
led t from [] = Some from
led t from (call ∷ calls) = option_and_then (λ to. led t to calls) (next_from t from call)

-- whether the state of this number is marked drop
abbrev pub drops : Typestate → ℕ → Bool
drops t q = elim (slice_get t.states q) [ None ↦ false | Some s ↦ s.drops ]

-- whether an object may be left at this place: at the end, or in a state that is marked drop
abbrev pub may_end : Typestate → To → Bool
may_end t (tos.State q) = drops t q
may_end t tos.End = true

-- a call has an answer only if a method of its name has a result of a named type
abbrev pub Fits : Typestate → Call → Type 0
Fits t call = IsSome call.answer → (m : Method) × (type : Name) × IsOffered t.states m × (m.name ≡ call.method)
    × (m.result ≡ types.Named type)

-- the place offers this method
abbrev pub Offers : Typestate → To → Name → Type 0
Offers t (tos.State q) name = IsSome (offered t q name)
Offers t tos.End name = ⊥

-- the calls lead from the initial state along the typestate, and the method that is still open, where there is one, is offered there
pub record Path (t : Typestate) (calls : List Call) (open_call : Option Name) : Type 0 where
  pub fit : AllByRecursion (Fits t) calls
  pub to : To
  pub leads : led t (initial t) calls ≡ Some to
  pub offers : IfSome open_call (Offers t to)

-- the calls lead from the initial state to the end
pub record Ends (t : Typestate) (calls : List Call) : Type 0 where
  pub fit : AllByRecursion (Fits t) calls
  pub leads : led t (initial t) calls ≡ Some tos.End

-- the calls lead from the initial state to the end or to a state that is marked drop: the object may be left there
pub record MayBeLeft (t : Typestate) (calls : List Call) : Type 0 where
  pub fit : AllByRecursion (Fits t) calls
  pub to : To
  pub leads : led t (initial t) calls ≡ Some to
  pub may : may_end t to ≡ true
