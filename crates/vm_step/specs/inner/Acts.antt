-- What actions do, by the operands that stand so far from the top.
-- `proofs/Tops.antt` shows that this is what the machine's definitions say.
use Rattle.std.specs.Prelude.{ℕ, ℤ, pos, neg_ℤ, ◌+ℤ◌, Bool, List, [], ◌∷◌, ◌++◌, Option, Some, None}
use Rattle.mg_text.specs.declared.event.BadKind.TheVariants as bad
use Rattle.vm_model.specs.declared.value.Value.{Value}
use Rattle.vm_model.specs.declared.value.Value.TheVariants as values
use Rattle.vm_model.specs.Messages.{Messages}
use Rattle.vm_model.specs.Machine.{Machine, Stepped}
use Rattle.vm_model.specs.Arithmetic.{wrap, computed, compares, switched}
use Rattle.vm_model.specs.Actions.{Operation, Comparison}
use Rattle.vm_model.specs.Tests.{is_null}
use Rattle.vm_model.specs.Step.{broken, goes, next, at_place, with_local, computed_to, branch, same_truth}

abbrev pub stored_by : Messages → Machine → ℕ → List Value → Option Value → Stepped
stored_by q m local rest None = broken bad.Underflow
stored_by q m local rest (Some v) = goes q (next (with_local m local v) rest)

abbrev pub doubled_by : Messages → Machine → List Value → Option Value → Stepped
doubled_by q m rest None = broken bad.Underflow
doubled_by q m rest (Some v) = goes q (next m (rest ++ v ∷ v ∷ []))

abbrev pub swapped_by : Messages → Machine → List Value → Option Value → Option Value → Stepped
swapped_by q m rest (Some v) (Some w) = goes q (next m (rest ++ w ∷ v ∷ []))
swapped_by q m rest _ _ = broken bad.Underflow

abbrev pub computes_by : Messages → Machine → Operation → List Value → Option ℤ → Option ℤ → Stepped
computes_by q m operation rest (Some x) (Some y) = computed_to q m rest (computed operation x y)
computes_by q m operation rest _ _ = broken bad.Kind

abbrev pub negates_by : Messages → Machine → List Value → Option ℤ → Stepped
negates_by q m rest None = broken bad.Kind
negates_by q m rest (Some x) = goes q (next m (rest ++ values.Int (wrap (neg_ℤ x)) ∷ []))

abbrev pub on_zero_by : Messages → Machine → Comparison → ℕ → List Value → Option ℤ → Stepped
on_zero_by q m comparison target rest None = broken bad.Kind
on_zero_by q m comparison target rest (Some x) = branch q m rest target (compares comparison x (pos 0))

abbrev pub on_both_by : Messages → Machine → Comparison → ℕ → List Value → Option ℤ → Option ℤ → Stepped
on_both_by q m comparison target rest (Some x) (Some y) = branch q m rest target (compares comparison x y)
on_both_by q m comparison target rest _ _ = broken bad.Kind

abbrev pub on_null_by : Messages → Machine → Bool → ℕ → List Value → Option Value → Stepped
on_null_by q m wanted target rest None = broken bad.Underflow
on_null_by q m wanted target rest (Some v) = branch q m rest target (same_truth wanted (is_null v))

abbrev pub switches_by : Messages → Machine → ℕ → ℤ → List ℕ → List Value → Option ℤ → Stepped
switches_by q m default low targets rest None = broken bad.Kind
switches_by q m default low targets rest (Some x) = goes q (at_place m (switched default low targets x) rest)

abbrev pub increased_by : Messages → Machine → List Value → ℕ → ℤ → Option ℤ → Stepped
increased_by q m rest local by None = broken bad.Kind
increased_by q m rest local by (Some x) = goes q (next (with_local m local (values.Int (wrap (x +ℤ by)))) rest)
