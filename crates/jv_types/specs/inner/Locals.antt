-- Parameters and locals with their types.
use Rattle.std.specs.Prelude.{List, map}
use Rattle.mg_text.specs.Call.{Name}
use Rattle.jv_scope.specs.Named.{Named}
use Rattle.jv_rules.specs.Types.{ValueType}
use Rattle.jv_rules.specs.Scope.{Declared}
use Rattle.jv_types.specs.declared.value_type.ValueType.{ValueType as KeptType}
use Rattle.jv_types.specs.inner.View.{type_seen}

abbrev pub declared : Name → ValueType → Declared
declared name type = record { name = name; type = type }

abbrev pub declared_seen : Named KeptType → Declared
declared_seen n = declared n.name (type_seen n.it)

abbrev pub locals_seen : List (Named KeptType) → List Declared
locals_seen ns = map declared_seen ns
