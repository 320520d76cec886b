-- Frames that say the same.
use Rattle.std.specs.Prelude.{◌≡◌, Option, Some, None}
use Rattle.cls_rows.specs.declared.frame.Frame.{Frame}

pub record AreSame (f g : Frame) : Type 0 where
  pub locals : g.locals.value.items ≡ f.locals.value.items
  pub operands : g.operands ≡ f.operands

abbrev pub SameOr : Option Frame → Option Frame → Type 0
SameOr None None = Unit {0}
SameOr None (Some g) = ⊥
SameOr (Some f) None = ⊥
SameOr (Some f) (Some g) = AreSame f g
