-- What the members of `String`, `PrintStream` and `Object` do, by the operands that stand so far from the top.
use Rattle.std.specs.Prelude.{ℤ, List, [], ◌∷◌, ◌++◌, Option, Some, None}
use Rattle.std.specs.Fmt.{signed_decimal}
use Rattle.mg_text.specs.Call.{Name}
use Rattle.mg_text.specs.declared.event.BadKind.TheVariants as bad
use Rattle.mg_text.specs.declared.event.Event.TheVariants as seen
use Rattle.mg_text.specs.declared.event.Ending.TheVariants as endings
use Rattle.vm_model.specs.declared.value.Value.{Value}
use Rattle.vm_model.specs.declared.value.Value.TheVariants as values
use Rattle.vm_model.specs.Messages.{Messages}
use Rattle.vm_model.specs.Machine.{Machine, Stepped, Stops}
use Rattle.vm_model.specs.Step.{broken, goes, tells, next, truth, same_text, is_true, truth_text, text_or_null}

abbrev pub inits_by : Messages → Machine → List Value → Option Value → Stepped
inits_by q m rest None = broken bad.Underflow
inits_by q m rest (Some values.Null) = Stops endings.Null
inits_by q m rest (Some _) = goes q (next m rest)

abbrev pub joins_by : Messages → Machine → List Value → Option Name → Option Name → Stepped
joins_by q m rest (Some a) (Some b) = goes q (next m (rest ++ values.Text (a ++ b) ∷ []))
joins_by q m rest _ _ = Stops endings.Null

abbrev pub equals_by : Messages → Machine → List Value → Option Name → Option Value → Stepped
equals_by q m rest (Some a) (Some v) = goes q (next m (rest ++ truth (same_text a v) ∷ []))
equals_by q m rest _ _ = Stops endings.Null

abbrev pub shows_int_by : Messages → Machine → List Value → Option ℤ → Stepped
shows_int_by q m rest None = broken bad.Kind
shows_int_by q m rest (Some x) = goes q (next m (rest ++ values.Text (signed_decimal x) ∷ []))

abbrev pub shows_truth_by : Messages → Machine → List Value → Option ℤ → Stepped
shows_truth_by q m rest None = broken bad.Kind
shows_truth_by q m rest (Some x) = goes q (next m (rest ++ values.Text (truth_text (is_true x)) ∷ []))

abbrev pub prints_by : Messages → Machine → List Value → Option Value → Option Value → Stepped
prints_by q m rest (Some values.Out) (Some v) = tells q (seen.Print (text_or_null v)) (next m rest)
prints_by q m rest (Some _) (Some _) = Stops endings.Null
prints_by q m rest _ _ = broken bad.Underflow
