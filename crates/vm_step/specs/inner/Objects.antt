-- What actions do with objects, by the operands that stand so far from the top.
use Rattle.std.specs.Prelude.{ℕ, List, [], ◌∷◌, ◌++◌, Option, Some, None, slice_get}
use Rattle.mg_text.specs.declared.event.BadKind.TheVariants as bad
use Rattle.mg_text.specs.declared.event.Ending.TheVariants as endings
use Rattle.vm_model.specs.declared.value.Value.{Value}
use Rattle.vm_model.specs.declared.value.Value.TheVariants as values
use Rattle.vm_model.specs.Messages.{Messages}
use Rattle.vm_model.specs.Machine.{Machine, Object, Stepped, Stops}
use Rattle.vm_model.specs.Step.{broken, goes, next, writes_object}

abbrev pub field_of_object : ℕ → Option Object → Option Value
field_of_object field None = None
field_of_object field (Some o) = slice_get o.fields field

-- what a field of an object holds
abbrev pub field_in : List Object → ℕ → ℕ → Option Value
field_in heap n field = field_of_object field (slice_get heap n)

abbrev pub reads_at : Messages → Machine → List Value → Option Value → Stepped
reads_at q m rest None = broken bad.Member
reads_at q m rest (Some v) = goes q (next m (rest ++ v ∷ []))

abbrev pub reads_by : Messages → Machine → ℕ → List Value → Option Value → Stepped
reads_by q m field rest (Some (values.Object n)) = reads_at q m rest (field_in m.heap n field)
reads_by q m field rest (Some values.Null) = Stops endings.Null
reads_by q m field rest _ = broken bad.Member

abbrev pub writes_by : Messages → Machine → ℕ → List Value → Option Value → Option Value → Stepped
writes_by q m field rest (Some (values.Object n)) (Some v) = writes_object q m rest n field v (slice_get m.heap n)
writes_by q m field rest (Some values.Null) (Some v) = Stops endings.Null
writes_by q m field rest _ _ = broken bad.Member
