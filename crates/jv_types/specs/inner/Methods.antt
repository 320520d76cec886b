-- What is judged at methods and classes.
use Rattle.std.specs.Prelude.{List, [], ◌∷◌, Option}
use Rattle.mg_read.specs.Culprit.{Culprit}
use Rattle.jv_tree.specs.Source.{Method, Class}
use Rattle.jv_rules.specs.declared.condition.Condition.{Condition}
use Rattle.jv_rules.specs.Program.{Program}
use Rattle.jv_rules.specs.Spots.{AtEnd, method_spots, methods_spots, classes_spots}
use Rattle.jv_rules.specs.inner.Deciding.{fault_in}

abbrev pub fault_at_end : Method → Option (Condition × Culprit)
fault_at_end m = fault_in (AtEnd m ∷ [])

abbrev pub fault_in_method : Program → Class → Method → Option (Condition × Culprit)
fault_in_method program class m = fault_in (method_spots program class m)

abbrev pub fault_in_methods : Program → Class → List Method → Option (Condition × Culprit)
fault_in_methods program class ms = fault_in (methods_spots program class ms)

abbrev pub fault_in_classes : Program → List Class → Option (Condition × Culprit)
fault_in_classes program cs = fault_in (classes_spots program cs)
