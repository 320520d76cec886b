-- The places at which ways may join, as marks by places. Behind the code there is no place without a mark.
use Rattle.std.specs.Prelude.{◌≡◌, ℕ, List, length, get_or, Bool, true, Some, slice_get, Contains}
use Rattle.vm_model.specs.Program.{Instr}
use Rattle.vm_model.specs.Actions.{Action, action}
use Rattle.cls_verify.specs.Blocks.{jumps}

abbrev pub IsMarked : List Bool → ℕ → Type 0
IsMarked marks place = get_or marks place true ≡ true

abbrev pub AllMarked : List Bool → List ℕ → Type 0
AllMarked marks places = (place : ℕ) → Contains places place → IsMarked marks place

pub record KeepsMarks (old new : List Bool) : Type 0 where
  pub many : length new ≡ length old
  pub marked : (place : ℕ) → IsMarked old place → IsMarked new place

-- the first place is marked, and those that jumps lead to
pub record AreJoins (code : List Instr) (marks : List Bool) : Type 0 where
  pub many : length marks ≡ length code
  pub first : IsMarked marks 0
  pub joined : (place : ℕ) (i : Instr) (a : Action) → slice_get code place ≡ Some i → action i.op i.args ≡ Some a →
      AllMarked marks (jumps a)
