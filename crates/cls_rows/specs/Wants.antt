-- What operands must be, in kinds by numbers, and which are taken.
use Rattle.std.specs.Prelude.{◌≡◌, Bool, true, false, not, ◌&&◌, ◌==◌, List, [], ◌∷◌, ◌++◌}
use Rattle.vm_actions.specs.declared.action.Sort.{Sort}
use Rattle.vm_actions.specs.declared.action.Sort.TheVariants as sorts
use Rattle.cls_kinds.specs.declared.kind.Kind.{Kind}
use Rattle.cls_kinds.specs.Numbers.{is_plain, fits_in}
use Rattle.cls_rows.specs.declared.want.Want.{Want}
use Rattle.cls_rows.specs.declared.want.Want.TheVariants as wants

-- each value of a kind is of a sort
abbrev pub sorted : Sort → Kind → Bool
sorted sorts.Number k = k.0 == 0
sorted sorts.Reference k = not (is_plain k.0)

abbrev pub passes_in : Want → Kind → Bool
passes_in wants.Any k = true
passes_in (wants.Sorted sort) k = sorted sort k
passes_in (wants.Of wanted) k = fits_in k wanted
passes_in (wants.Returned sort wanted) k = sorted sort k && fits_in k wanted

abbrev pub all_pass : List Want → List Kind → Bool
all_pass [] [] = true
all_pass (w ∷ ws) (k ∷ ks) = passes_in w k && all_pass ws ks
all_pass _ _ = false

-- operands that are as they must be are taken from a list, and these are left
pub record IsTaken (ws : List Want) (ks below : List Kind) : Type 0 where
  pub taken : List Kind
  pub split : ks ≡ below ++ taken
  pub pass : all_pass ws taken ≡ true

abbrev pub CanTake : List Want → List Kind → Type 0
CanTake ws ks = (below : List Kind) × IsTaken ws ks below
