-- What is kept of a state.
use Rattle.std.specs.Prelude.{◌≡◌, ℕ, ◌+◌, ◌≤◌, List, [], ◌∷◌, length, take, drop, reverse, All}
use Rattle.vm_frames.specs.declared.cell.Cell.{Cell}
use Rattle.vm_frames.specs.declared.cell.Head.{Head}
use Rattle.vm_frames.specs.declared.cell.Object.{Object}
use Rattle.vm_frames.specs.declared.state.State.TheInside.{Inside}
use Rattle.vm_frames.specs.Seen.{IsKnown, IsSet}

-- the operands that a method may have: its max_stack is a number of 16 bits
abbrev pub most : ℕ
most = 65535

-- a frame has its locals, and each of its cells that should hold a value does
pub record IsFrame (count : ℕ) (head : Head) (row : List Cell) : Type 0 where
  pub within : head.locals ≤ length row
  pub locals : All (IsKnown count) (take head.locals row)
  pub operands : All (IsSet count) (drop head.locals row)

-- below the last of them lies an empty one
abbrev pub AreFrames : (count : ℕ) → List Head → List (List Cell) → Type 0
AreFrames count [] rows = rows ≡ [] ∷ []
AreFrames count (head ∷ heads) [] = ⊥
AreFrames count (head ∷ heads) (row ∷ rows) = IsFrame count head row × AreFrames count heads rows

abbrev pub IsObject : (count : ℕ) → Object → Type 0
IsObject count o = All (IsSet count) o.fields.items

pub record IsKept (s : Inside) : Type 0 where
  -- there is room for as many operands of the running frame as a method may have, with those that it has
  pub room : s.head.locals + most ≤ s.cells.spare + length s.cells.running
  pub running : IsFrame (length s.texts.items) s.head s.cells.running
  pub callers : AreFrames (length s.texts.items) (reverse s.heads.items) s.cells.callers
  pub objects : All (IsObject (length s.texts.items)) s.heap.items
