-- Kinds are kept at the places at which ways join. From such a place on a block runs to where ways join again, or end.
use Rattle.std.specs.Prelude.{◌≡◌, ℕ, ◌+◌, ◌≤◌, Bool, true, false, List, [], ◌∷◌, length, Option, Some, Contains}
use Rattle.vm_model.specs.Program.{Program, MethodOf}
use Rattle.vm_model.specs.Actions.{Action, IfZero, IfBoth, IfNull, Go, Switch, Return}
use Rattle.cls_verify.specs.Typing.{Kinds, LeadsTo, arguments, first_locals}
use Rattle.cls_verify.specs.BlockRows.{RowAt}

-- whether an instruction may go on behind itself
abbrev pub falls : Action → Bool
falls (Go target) = false
falls (Switch default low targets) = false
falls (Return sort) = false
falls _ = true

-- where it jumps to
abbrev pub jumps : Action → List ℕ
jumps (IfZero comparison target) = target ∷ []
jumps (IfBoth comparison target) = target ∷ []
jumps (IfNull wanted target) = target ∷ []
jumps (Go target) = target ∷ []
jumps (Switch default low targets) = default ∷ targets
jumps _ = []

-- where it jumps to ways join, and there it leads to what is kept
abbrev pub Jumps : (joins : ℕ → Bool) (at : ℕ → Option Kinds) → Action → Kinds → Type 0
Jumps joins at a left = (next : ℕ) → Contains (jumps a) next → (joins next ≡ true) × LeadsTo at left next

-- the rest of a block, from a place on
pub data Runs (p : Program) (class method : ℕ) (m : MethodOf) (joins : ℕ → Bool) (at : ℕ → Option Kinds) : ℕ → Kinds → Type 0 where
  runs : (place : ℕ) (k left : Kinds) (r : RowAt p class method m place k left) → Jumps joins at r.action_is left →
      (falls r.action_is ≡ true → joins (place + 1) ≡ true → LeadsTo at left (place + 1)) →
      (falls r.action_is ≡ true → joins (place + 1) ≡ false → Runs p class method m joins at (place + 1) left) →
      Runs p class method m joins at place k

-- the front of a block, from where it begins to a place
pub data Came (p : Program) (class method : ℕ) (m : MethodOf) (joins : ℕ → Bool) (at : ℕ → Option Kinds) (start : ℕ) (first : Kinds) :
    ℕ → Kinds → Type 0 where
  begins : Came p class method m joins at start first start first
  goes : (place : ℕ) (k left : Kinds) → Came p class method m joins at start first place k → (r : RowAt p class method m place k left) →
      Jumps joins at r.action_is left → falls r.action_is ≡ true → joins (place + 1) ≡ false →
      Came p class method m joins at start first (place + 1) left

-- each block runs
pub record AreBlocks (p : Program) (class method : ℕ) (m : MethodOf) (joins : ℕ → Bool) (at : ℕ → Option Kinds) : Type 0 where
  pub fits : length (arguments p class m) ≤ m.max_locals
  pub begins_joined : joins 0 ≡ true
  pub first : at 0 ≡ Some (record { locals = first_locals p class m; operands = [] })
  pub as_many : (place : ℕ) (k : Kinds) → at place ≡ Some k → length k.locals ≡ m.max_locals
  pub room : (place : ℕ) (k : Kinds) → at place ≡ Some k → length k.operands ≤ m.max_stack
  pub run : (place : ℕ) (k : Kinds) → joins place ≡ true → at place ≡ Some k → Runs p class method m joins at place k
