-- What judging a code promises: its faults lie in its bytes.
use Rattle.std.specs.Prelude.{◌≡◌, Result, Ok, Err, ℕ, ◌+◌, ◌*◌, ◌<◌, ◌^◌, length}
use Rattle.cls_tree.specs.Tree.{Args, Table}
use Rattle.cls_layout.specs.Faults.{moved}
use Rattle.cls_code.specs.declared.CodeFault.{CodeFault}
use Rattle.cls_code.specs.declared.CodeFault.TheVariants as codes

-- the bytes of the offsets of a table, if the arguments are one
abbrev pub extra : Args → ℕ
extra (Table default low offsets) = 4 * length offsets
extra other = 0

-- the offset of a fault, if it has one, is a number of four bytes behind this place
abbrev pub MovesWithin : ℕ → CodeFault → Type 0
MovesWithin at (codes.CodeTooLong offset) = at + offset < 2 ^ 32
MovesWithin at (codes.UnknownOpcode offset) = at + offset < 2 ^ 32
MovesWithin at (codes.Short offset) = at + offset < 2 ^ 32
MovesWithin at (codes.BadSwitch offset) = at + offset < 2 ^ 32
MovesWithin at (codes.JumpOutside offset) = at + offset < 2 ^ 32
MovesWithin at codes.Memory = Unit {0}

-- the fault of a code that begins at this place, unless memory ran out
abbrev pub IsMoved : {E : Type 0} → ℕ → CodeFault → Result CodeFault E → Type 0
IsMoved at codes.Memory (Ok r) = ⊥
IsMoved at fault (Ok r) = r ≡ moved at fault
IsMoved at fault (Err e) = Unit {0}
