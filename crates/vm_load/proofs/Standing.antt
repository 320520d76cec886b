-- What a constant means behind an opcode rests on the constant alone, not on its number.
use Rattle.std.proofs.Common.{◌≡◌, ℕ, List, refl}
use Rattle.cls_tree.specs.declared.class.Const.{Const}
use Rattle.cls_tree.specs.Pool.{const_at}
use Rattle.vm_model.specs.Links.{Outline, judged_pool}

pub same_judged : (os : List Outline) (pool : List Const) (op a b : ℕ) → const_at pool a ≡ const_at pool b → judged_pool os pool op a
    ≡ judged_pool os pool op b
same_judged os pool op a b e = rw e refl
