-- What a step of the search is given, in a setting.
use Rattle.std.specs.Prelude.{◌≡◌, ℕ, ◌<◌, ◌⊎◌, List, length, Some, true, false, Contains}
use Rattle.cls_kinds.specs.declared.kind.Kind.{Kind}
use Rattle.cls_kinds.specs.Numbers.{joined_all, is_raised}
use Rattle.cls_kinds.specs.Stacks.{stack_at}
use Rattle.cls_rows.specs.declared.frame.Frame.{Frame}
use Rattle.cls_rows.specs.Frames.{kinds_at}
use Rattle.cls_rows.specs.Same.{AreSame}
use Rattle.cls_search.specs.declared.leading.Found.{Found}
use Rattle.cls_search.specs.Setting.{Setting}
use Rattle.cls_search.specs.Kept.{IsRight, FrameFits, frame_at}
use Rattle.cls_search.specs.Going.{IsBelow}

-- a frame is led to a place
pub record LedTo (s : Setting) (f : Found) (g : Frame) (place : ℕ) : Type 0 where
  pub right : IsRight s f
  pub fits : FrameFits s f.stacks g
  pub below : IsBelow s (kinds_at s.names s.rest f.stacks g) place

-- a frame is led to a place at which this one stands
pub record LedOver (s : Setting) (f : Found) (old g : Frame) (place : ℕ) : Type 0 where
  pub led : LedTo s f g place
  pub kept : Frame
  pub there : frame_at f place ≡ Some kept
  pub same : AreSame kept old

-- a frame is led to each of these places
pub record LedToAll (s : Setting) (f : Found) (g : Frame) (places : List ℕ) : Type 0 where
  pub right : IsRight s f
  pub fits : FrameFits s f.stacks g
  pub below : (next : ℕ) → Contains places next → IsBelow s (kinds_at s.names s.rest f.stacks g) next

-- a frame is the least that it and another one fit
pub record Stays (stacks : List (List Kind)) (f g : Frame) : Type 0 where
  pub locals : is_raised f.locals.value.items g.locals.value.items ≡ false
  pub operands : is_raised (stack_at stacks f.operands) (stack_at stacks g.operands) ≡ false

-- the least frame that two fit, where it isn't the first
pub record RaisesTo (old new : List (List Kind)) (f g h : Frame) : Type 0 where
  pub up : (is_raised f.locals.value.items g.locals.value.items ≡ true) ⊎ (is_raised (stack_at old f.operands) (stack_at old g.operands)
      ≡ true)
  pub locals : h.locals.value.items ≡ joined_all f.locals.value.items g.locals.value.items
  pub operands : stack_at new h.operands ≡ joined_all (stack_at old f.operands) (stack_at old g.operands)
  pub there : h.operands < length new
