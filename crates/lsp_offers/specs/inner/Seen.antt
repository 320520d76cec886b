-- Methods that are borrowed, as definitions see them.
use Rattle.std.specs.Prelude.{List, map}
use Rattle.std.specs.Borrow.{Bor}
use Rattle.ts_tree.specs.declared.parts.Method.{Method as KeptMethod}
use Rattle.ts_tree.specs.View.{method_of}
use Rattle.ts_tree.specs.Typestate.{Method}

abbrev pub seen : List (Bor KeptMethod) → List Method
seen ms = map (λ m. method_of m.now) ms
