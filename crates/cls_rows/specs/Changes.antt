-- What instructions leave that double, swap, read or change what they find.
use Rattle.std.specs.Prelude.{◌≡◌, ℕ, ◌<◌, ◌≤◌, true, List, [], ◌∷◌, ◌++◌, length, Some, slice_get, slice_set}
use Rattle.vm_actions.specs.declared.action.Sort.{Sort}
use Rattle.cls_kinds.specs.declared.kind.Kind.{Kind}
use Rattle.cls_kinds.specs.Stacks.{stack_at}
use Rattle.cls_rows.specs.declared.frame.Frame.{Frame}
use Rattle.cls_rows.specs.Wants.{sorted}

abbrev pub locals_of : Frame → List Kind
locals_of f = f.locals.value.items

-- the topmost operand, where it may be doubled
pub record CanDouble (old : List (List Kind)) (limit : ℕ) (f : Frame) : Type 0 where
  pub below : List Kind
  pub kind : Kind
  pub split : stack_at old f.operands ≡ below ++ kind ∷ []
  pub room : length (below ++ kind ∷ kind ∷ []) ≤ limit

pub record Doubles (old new : List (List Kind)) (limit : ℕ) (f g : Frame) : Type 0 where
  pub can : CanDouble old limit f
  pub left : stack_at new g.operands ≡ can.below ++ can.kind ∷ can.kind ∷ []
  pub locals : locals_of g ≡ locals_of f
  pub there : g.operands < length new

-- the two topmost operands
pub record CanSwap (old : List (List Kind)) (f : Frame) : Type 0 where
  pub below : List Kind
  pub lower : Kind
  pub upper : Kind
  pub split : stack_at old f.operands ≡ below ++ lower ∷ upper ∷ []

pub record Swaps (old new : List (List Kind)) (f g : Frame) : Type 0 where
  pub can : CanSwap old f
  pub left : stack_at new g.operands ≡ can.below ++ can.upper ∷ can.lower ∷ []
  pub locals : locals_of g ≡ locals_of f
  pub there : g.operands < length new

-- a local that is of a sort
pub record CanRead (sort : Sort) (local : ℕ) (f : Frame) : Type 0 where
  pub kind : Kind
  pub held : slice_get (locals_of f) local ≡ Some kind
  pub is : sorted sort kind ≡ true

pub record CanLoad (old : List (List Kind)) (limit : ℕ) (sort : Sort) (local : ℕ) (f : Frame) : Type 0 where
  pub read : CanRead sort local f
  pub room : length (stack_at old f.operands ++ read.kind ∷ []) ≤ limit

pub record Loads (old new : List (List Kind)) (limit : ℕ) (sort : Sort) (local : ℕ) (f g : Frame) : Type 0 where
  pub can : CanLoad old limit sort local f
  pub left : stack_at new g.operands ≡ stack_at old f.operands ++ can.read.kind ∷ []
  pub locals : locals_of g ≡ locals_of f
  pub there : g.operands < length new

-- the topmost operand, where it is of a sort and there is the local
pub record CanStore (old : List (List Kind)) (sort : Sort) (local : ℕ) (f : Frame) : Type 0 where
  pub below : List Kind
  pub kind : Kind
  pub split : stack_at old f.operands ≡ below ++ kind ∷ []
  pub is : sorted sort kind ≡ true
  pub within : local < length (locals_of f)

pub record Stores (old : List (List Kind)) (sort : Sort) (local : ℕ) (f g : Frame) : Type 0 where
  pub can : CanStore old sort local f
  pub left : stack_at old g.operands ≡ can.below
  pub locals : locals_of g ≡ slice_set (locals_of f) local can.kind
  pub there : g.operands < length old
