-- What an instruction leaves that takes operands, gives some, and leaves the locals.
use Rattle.std.specs.Prelude.{◌≡◌, ℕ, ◌<◌, ◌≤◌, List, ◌++◌, length}
use Rattle.cls_kinds.specs.declared.kind.Kind.{Kind}
use Rattle.cls_kinds.specs.Stacks.{stack_at}
use Rattle.cls_rows.specs.declared.frame.Frame.{Frame}
use Rattle.cls_rows.specs.declared.want.Want.{Want}
use Rattle.cls_rows.specs.Wants.{IsTaken}

pub record Settles (old new : List (List Kind)) (limit : ℕ) (ws : List Want) (given : List Kind) (f g : Frame) : Type 0 where
  pub below : List Kind
  pub takes : IsTaken ws (stack_at old f.operands) below
  pub left : stack_at new g.operands ≡ below ++ given
  pub locals : g.locals.value.items ≡ f.locals.value.items
  pub room : length (below ++ given) ≤ limit
  pub there : g.operands < length new

abbrev pub CanSettle : (old : List (List Kind)) (limit : ℕ) (ws : List Want) (given : List Kind) (f : Frame) → Type 0
CanSettle old limit ws given f = (below : List Kind) × (IsTaken ws (stack_at old f.operands) below × (length (below ++ given) ≤ limit))

-- a frame goes on with these operands, and with what is given
pub record GoesOn (old new : List (List Kind)) (limit : ℕ) (below : ℕ) (given : List Kind) (f g : Frame) : Type 0 where
  pub left : stack_at new g.operands ≡ stack_at old below ++ given
  pub locals : g.locals.value.items ≡ f.locals.value.items
  pub room : length (stack_at old below ++ given) ≤ limit
  pub there : g.operands < length new
