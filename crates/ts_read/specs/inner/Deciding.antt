-- The first condition that is broken, as it is searched for.
use Rattle.std.specs.Prelude.{List, [], map, Option, None, option_map}
use Rattle.std.specs.Option.{option_or}
use Rattle.mg_text.specs.Call.{Name}
use Rattle.mg_read.specs.Culprit.{Culprit}
use Rattle.ts_parse.specs.declared.written.WrittenState.{WrittenState}
use Rattle.ts_read.specs.declared.condition.Condition.{Condition}
use Rattle.ts_read.specs.declared.condition.Condition.TheVariants as conditions
use Rattle.ts_read.specs.declared.judge.Broken.{Broken}
use Rattle.ts_read.specs.inner.Finding.{blamed_of, repeat_in, first_some, state_name, repeat_entry, repeat_labels, unknown_state, named_end}
use Rattle.ts_read.specs.inner.Signing.{other_in_state, with_states}

abbrev pub broken_of : Broken → Condition × Culprit
broken_of b = (b.condition, blamed_of b.blamed)

abbrev pub tagged : Condition → Option Culprit → Option (Condition × Culprit)
tagged k o = option_map (λ c. (k, c)) o

abbrev pub labels_or_end : List WrittenState → Option (Condition × Culprit)
labels_or_end ss =
    option_or (tagged conditions.DuplicateLabel (first_some (map repeat_labels ss)))
    (option_or (tagged conditions.ReservedEnd (first_some (map named_end ss))) None)

abbrev pub methods_or_later : List WrittenState → Option (Condition × Culprit)
methods_or_later ss =
    option_or (tagged conditions.DuplicateMethod (first_some (map repeat_entry ss)))
    (option_or (tagged conditions.SignatureDiffers
    (first_some (map (other_in_state (with_states (record { names = []; sigs = [] }) ss)) ss)))
    (labels_or_end ss))

abbrev pub fault_found : List Name → List WrittenState → Option (Condition × Culprit)
fault_found names ss =
    option_or (tagged conditions.DuplicateState (repeat_in [] (map state_name ss)))
    (option_or (tagged conditions.UnknownState (first_some (map (unknown_state names) ss)))
    (methods_or_later ss))
