use Rattle.std.specs.Prelude.{ℕ, List}
use Rattle.cls_tree.specs.Tree.{Instr}
use Rattle.cls_tree.specs.Fits.{FitsInstrs}
use Rattle.cls_code.specs.Code.{Decodes, Instrs, whole}
use Rattle.part_cases.proofs.machine.codes.is_encoded_back.Goals as goal

all_fit : (bytes : List ℕ) (is : List Instr) → Decodes bytes (Instrs is) → FitsInstrs is
all_fit bytes is (whole fits sound spelled) = fits

pub encode-requires : goal.encode-requires
encode-requires c = rw c.as_slice.ensures.items (all_fit _ _ c.in-Ok.ensures.found)
