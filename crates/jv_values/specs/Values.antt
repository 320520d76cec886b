-- Values, objects, and what the parts of a run may change.
use Rattle.std.specs.Prelude.{ℕ, Bool, List, [], ◌∷◌, Option, Some, None, ℤ, if◌then◌else◌}
use Rattle.mg_text.specs.Call.{Name}
use Rattle.mg_text.specs.declared.event.Event.{Event}
use Rattle.mg_text.specs.declared.event.Sent.{Sent}

pub data Value : Type 0 where
  Int : ℤ → Value
  Truth : Bool → Value
  Text : List ℕ → Value
  Null : Value
  -- an object, by its number in the order of making
  Object : ℕ → Value
  -- a constant of an enum, by its position from 0
  Constant : (enum : Name) → (position : ℕ) → Value

-- how a role's run ends
pub data Finish : Type 0 where
  -- `main` returned
  Done : Finish
  -- a divisor was zero
  Zero : Finish
  -- a null stood where an object must
  Null : Finish
  -- the next message from a peer is another
  Mismatch : (peer found : Name) → Finish
  -- there is no such other role
  NoPeer : (peer : Name) → Finish
  -- there is no message from a peer
  Wait : (peer : Name) → Finish
  -- the budget is spent
  More : Finish
  -- no case applies
  Wrong : Finish

-- what a role does: what is seen of it, and how it ends
pub record Ended : Type 0 where
  pub events : List Event
  pub finish : Finish

-- each other role of the run, and the messages that it sent to this one
abbrev pub Inputs : Type 0
Inputs = List (Name × List Sent)

-- K is what names a variable: its name, or its number. This tells whether two are the same.
abbrev pub Same : Type 0 → Type 0
Same K = K → K → Bool

-- variables or fields, the innermost declaration first
abbrev pub Row : Type 0 → Type 0
Row K = List (K × Value)

-- the value of the innermost declaration of x
abbrev pub find : {K : Type 0} → Same K → K → Row K → Option Value
find same x [] = None
find same x (e ∷ row) = if same x e.0 then Some e.1 else find same x row

abbrev pub over : {A : Type 0} → A → Option (List A) → Option (List A)
over e None = None
over e (Some row) = Some (e ∷ row)

-- the row with another value for the innermost declaration of x
abbrev pub put : {K : Type 0} → Same K → K → Value → Row K → Option (Row K)
put same x v [] = None
put same x v (e ∷ row) = if same x e.0 then Some ((e.0, v) ∷ row) else over e (put same x v row)

-- parameters and their arguments, the last innermost, before a row
abbrev pub bound : {K : Type 0} → List K → List Value → Row K → Option (Row K)
bound [] [] row = Some row
bound (x ∷ xs) (v ∷ vs) row = bound xs vs ((x, v) ∷ row)
bound [] (v ∷ vs) row = None
bound (x ∷ xs) [] row = None

-- an object: the name of its class, and its fields by their names
pub record Instance : Type 0 where
  pub class : Name
  pub fields : Row Name

-- what an expression may change: the objects, by their numbers, and the events so far
pub record Shared : Type 0 where
  pub heap : List Instance
  pub events : List Event

-- what a statement may change
pub record Lives (K : Type 0) : Type 0 where
  pub locals : Row K
  pub shared : Shared

-- the class whose code runs, and the object that it runs on
pub record Here (K : Type 0) : Type 0 where
  pub class : K
  pub object : Option ℕ

-- a method; T is the tree of statements
pub record Method (K T : Type 0) : Type 0 where
  pub class : K
  pub name : Name
  -- it runs on an object of its class
  pub on_object : Bool
  pub has_result : Bool
  pub params : List K
  pub body : T
