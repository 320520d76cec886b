-- Where a context begins, as the code says it.
use Rattle.std.specs.Prelude.{ℕ, List, [], Some, None}
use Rattle.jv_core.specs.declared.program.CoreType.{CoreType}
use Rattle.use_rules.specs.declared.key.TableKey.TheVariants as keys
use Rattle.use_rules.specs.Elements.{Set}
use Rattle.use_rules.specs.Keys.{class_in}
use Rattle.use_rules.specs.State.{Log}
use Rattle.use_rules.specs.Flow as rules
use Rattle.use_flow.specs.View.{tables_of}
use Rattle.use_flow.specs.inner.Followed.{Followed, here}

abbrev pub params_from : Followed → (param : ℕ) → List CoreType → List Set
params_from s = rules.params_from s.program s.contexts s.context s.method (tables_of s.held)

abbrev pub fields_at_start : Followed → List Set → List Set
fields_at_start s = rules.fields_at_start s.program s.contexts s.context s.method (tables_of s.held)

abbrev pub start : Followed → List Set
start s = rules.start s.program s.contexts s.context s.method (tables_of s.held)

abbrev pub whole : Followed → Log
whole s = rules.whole s.program s.contexts s.context s.method (tables_of s.held)

-- the set of a parameter
abbrev pub param_set : Followed → (param : ℕ) → CoreType → Set
param_set s i ty = elim (class_in ty) [ None ↦ [] | Some c ↦ tables_of s.held (keys.Param (here s) i) ]
