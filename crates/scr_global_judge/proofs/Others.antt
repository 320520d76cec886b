-- A condition that is none of a global protocol's finds nothing.
use Rattle.std.proofs.Common.{◌≡◌, ◌≢◌, None, refl}
use Rattle.scr_tree.specs.declared.condition.Condition.{Condition}
use Rattle.scr_tree.specs.declared.condition.Condition.TheVariants as conditions
use Rattle.scr_global_tree.specs.Faults.{Of}
use Rattle.scr_global_tree.specs.Written.{WrittenTree}

pub no_other : (w : WrittenTree) (k : Condition) → k ≢ conditions.DuplicateName → k ≢ conditions.UnknownRole → k ≢ conditions.PeerIsSelf
    → k ≢ conditions.UnknownType → k ≢ conditions.PayloadCount → k ≢ conditions.UnknownRec → k ≢ conditions.DuplicateRec
    → k ≢ conditions.Unguarded → k ≢ conditions.Unreachable → k ≢ conditions.BranchStart → k ≢ conditions.MixedChoice → k ≢ conditions.SameLabel → Of w k None
no_other w conditions.DuplicateName a b c d e f g h i j l m = absurd (a refl)
no_other w conditions.UnknownRole a b c d e f g h i j l m = absurd (b refl)
no_other w conditions.PeerIsSelf a b c d e f g h i j l m = absurd (c refl)
no_other w conditions.UnknownType a b c d e f g h i j l m = absurd (d refl)
no_other w conditions.PayloadCount a b c d e f g h i j l m = absurd (e refl)
no_other w conditions.UnknownRec a b c d e f g h i j l m = absurd (f refl)
no_other w conditions.DuplicateRec a b c d e f g h i j l m = absurd (g refl)
no_other w conditions.Unguarded a b c d e f g h i j l m = absurd (h refl)
no_other w conditions.Unreachable a b c d e f g h i j l m = absurd (i refl)
no_other w conditions.BranchStart a b c d e f g h i j l m = absurd (j refl)
no_other w conditions.MixedChoice a b c d e f g h i j l m = absurd (l refl)
no_other w conditions.SameLabel a b c d e f g h i j l m = absurd (m refl)
no_other w _ a b c d e f g h i j l m = refl
