-- Comparisons of two values that are ints in the machine.
use Rattle.std.proofs.Common.{◌≡◌, Bool, true, false, refl, sym, ap, ◌∙◌, subst, ℤ, pos}
use Rattle.std.specs.Prelude.{nat_eq, if◌then◌else◌}
use Rattle.jv_values.specs.Values.{Value, Shared}
use Rattle.jv_values.specs.Values as values
use Rattle.jv_values.specs.Doing.{Gives, give, stop}
use Rattle.jv_values.specs.Operators.{same, int_same}
use Rattle.jv_core.specs.declared.program.CoreType.{CoreType}
use Rattle.jv_core.specs.Tree.{Program}
use Rattle.jv_core.specs.Types.{IsCompared}
use Rattle.vm_model.specs.declared.value.Value.TheVariants as held
use Rattle.jv_sound.proofs.Lists.{some_is, same_name}
use Rattle.jv_sound.proofs.Worlds.{World, Fits}
use Rattle.jv_sound.proofs.Worlds as worlds
use Rattle.gen_sound.specs.Related.{flat}
use Rattle.gen_sound.proofs.Ints.{same_positions}

-- what `==` says of two values is what the machine says of their ints
pub record SameInts (v z : Value) : Type 0 where
  pub left : ℤ
  pub right : ℤ
  pub left_is : flat v ≡ held.Int left
  pub right_is : flat z ≡ held.Int right
  pub is : (s : Shared) → same v z s ≡ Gives (int_same left right) s

truths : (a b : Bool) → SameInts (values.Truth a) (values.Truth b)
truths true true = record { left = pos 1; right = pos 1; left_is = refl; right_is = refl; is = λ s. refl }
truths true false = record { left = pos 1; right = pos 0; left_is = refl; right_is = refl; is = λ s. refl }
truths false true = record { left = pos 0; right = pos 1; left_is = refl; right_is = refl; is = λ s. refl }
truths false false = record { left = pos 0; right = pos 0; left_is = refl; right_is = refl; is = λ s. refl }

pub same_ints : (p : Program) (w : World) (v z : Value) (t : CoreType) → IsCompared t → Fits p w v t → Fits p w z t → SameInts v z
same_ints p w v z t i (worlds.int {z = x}) (worlds.int {z = y}) =
    record { left = x; right = y; left_is = refl; right_is = refl; is = λ s. refl }
same_ints p w v z t i (worlds.truth {b = a}) (worlds.truth {b = b}) = truths a b
same_ints p w v z t i worlds.text worlds.text = absurd i
same_ints p w v z t i worlds.null f = absurd i
same_ints p w v z t i (worlds.object o) f = absurd i
same_ints p w v z t i (worlds.constant {n = n} {name = a} e) (worlds.constant {n = k} {name = b} f) = record {
  left = pos n;
  right = pos k;
  left_is = refl;
  right_is = refl;
  is = λ s. let names : a ≡ b = some_is (sym e ∙ f) in
      subst (λ c. same (values.Constant a n) (values.Constant c k) s ≡ Gives (int_same (pos n) (pos k)) s) names
      (ap (λ c. (if c then give (nat_eq n k) else stop values.Wrong) s) (same_name a) ∙ ap (λ c. Gives c s) (sym (same_positions n k)));
}
