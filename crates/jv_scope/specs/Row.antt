-- Parameters and locals as they are kept.
use Rattle.std.specs.Prelude.{List, map, reverse}
use Rattle.jv_scope.specs.declared.locals.Declared.{Declared}
use Rattle.jv_scope.specs.Named.{Named, under}

abbrev pub declared_seen : {T : Type 0} → Declared T → Named T
declared_seen d = under d.name.now d.it

-- the last one first
abbrev pub row_seen : {T : Type 0} → List (Declared T) → List (Named T)
row_seen stack = reverse (map declared_seen stack)
