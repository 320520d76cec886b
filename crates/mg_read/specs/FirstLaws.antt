-- The laws of the first fault.
use Rattle.std.specs.Prelude.{◌≡◌, List, ◌∷◌, ◌++◌}
use Rattle.mg_read.specs.First.{Clean}

-- at most one culprit
abbrev pub IsSingle : {X C : Type 0} → (X → C → Type 0) → Type 0
IsSingle {X} {C} At = (x : X) (c d : C) → At x c → At x d → c ≡ d

-- What judging answers is a culprit of an element before which none has one, and there is no other answer.
abbrev pub Splits : {X C : Type 0} → (X → C → Type 0) → List X → C → Type 0
Splits {X} At xs c = (before : List X) × (x : X) × (after : List X) × (xs ≡ before ++ x ∷ after) × Clean At before × At x c
