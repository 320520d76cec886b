-- The laws of the library.
use Rattle.std.specs.Prelude.{◌≡◌, ℕ, Option, List}
use Rattle.mg_text.specs.Call.{Name}
use Rattle.jv_tree.specs.declared.built_in.SessionCall.{SessionCall}
use Rattle.jv_values.specs.Values.{Value, Inputs, Instance, Shared}
use Rattle.jv_values.specs.Doing.{Run}
use Rattle.jv_values.specs.Operators.{Operator, binary, negative, opposite, equal_texts, joined_texts, print}
use Rattle.jv_values.specs.Objects.{read_field, write_field, make, receiver, telling}
use Rattle.jv_values.specs.Messages.{session}
use Rattle.jv_values.specs.Alike.{Relation}
use Rattle.jv_values.specs.Further.{FurtherShared, BudgetLaw}

-- runs that the relation holds of, with the same value
abbrev pub Equals : Relation Shared Shared → {A : Type 0} → Run Shared A → Run Shared A → Type 0
Equals R {A} m n = R A A ◌≡◌ m n

-- what expressions are made of goes on through a relation
pub record GoesThrough (R : Relation Shared Shared) : Type 0 where
  pub binary : (operator : Operator) (a b a' b' : Run Shared Value) → Equals R a a' → Equals R b b' →
      Equals R (binary operator a b) (binary operator a' b')
  pub negative : (v : Value) → Equals R (negative v) (negative v)
  pub opposite : (v : Value) → Equals R (opposite v) (opposite v)
  pub equal_texts : (v w : Value) → Equals R (equal_texts v w) (equal_texts v w)
  pub joined_texts : (v w : Value) → Equals R (joined_texts v w) (joined_texts v w)
  pub print : (v : Value) → Equals R (print v) (print v)
  pub read_field : (c : Name) (this : Option ℕ) (x : Name) → Equals R (read_field c this x) (read_field c this x)
  pub write_field : (c : Name) (this : Option ℕ) (x : Name) (v : Value) → Equals R (write_field c this x v) (write_field c this x v)
  pub make : (i : Instance) → Equals R (make i) (make i)
  pub receiver : (v : Value) → Equals R (receiver v) (receiver v)
  pub telling : (o : ℕ) (m : Name) (call call' : Run Shared (Option Value)) → Equals R call call' →
      Equals R (telling o m call) (telling o m call')
  pub session : (inputs : Inputs) (call : SessionCall) (vs : List Value) → Equals R (session inputs call vs) (session inputs call vs)

-- A contract speaks of one relation, and of one kind of names; the lemmas are of all.
pub record LibraryLaws : Type 0 where
  pub through : GoesThrough FurtherShared
  pub budget : BudgetLaw ℕ ℕ ℕ
