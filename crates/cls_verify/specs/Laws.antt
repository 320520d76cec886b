-- Where each block runs the method has a typing. Where it has one, ways from what fits it meet their rows, and lead to what fits it.
use Rattle.std.specs.Prelude.{ℕ, Bool, Option, Contains}
use Rattle.vm_model.specs.Program.{Program, MethodOf}
use Rattle.cls_verify.specs.Rows.{leads}
use Rattle.cls_verify.specs.Typing.{Kinds, LeadsTo, Typing}
use Rattle.cls_verify.specs.BlockRows.{RowAt}
use Rattle.cls_verify.specs.Blocks.{AreBlocks}

abbrev pub BlocksAreTyped : Type 0
BlocksAreTyped = (p : Program) (class method : ℕ) (m : MethodOf) (joins : ℕ → Bool) (at : ℕ → Option Kinds) →
    AreBlocks p class method m joins at → Typing p class method m

abbrev pub RowsAreMet : Type 0
RowsAreMet = (p : Program) (class method : ℕ) (m : MethodOf) (typing : Typing p class method m) (place : ℕ) (k : Kinds) →
    LeadsTo typing.at k place → (left : Kinds) × RowAt p class method m place k left

abbrev pub WaysFit : Type 0
WaysFit = (p : Program) (class method : ℕ) (m : MethodOf) (typing : Typing p class method m) (place next : ℕ) (k left : Kinds) →
    LeadsTo typing.at k place → (r : RowAt p class method m place k left) → Contains (leads r.action_is place) next →
    LeadsTo typing.at left next
