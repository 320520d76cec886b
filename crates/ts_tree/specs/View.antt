-- What the program's states say.
use Rattle.std.specs.Prelude.{map}
use Rattle.ts_tree.specs.declared.parts.Target.{Target as KeptTarget}
use Rattle.ts_tree.specs.declared.parts.Target.TheVariants as kept
use Rattle.ts_tree.specs.declared.parts.Method.{Method as KeptMethod}
use Rattle.ts_tree.specs.declared.parts.State.{State as KeptState}
use Rattle.ts_tree.specs.Typestate.{Target, One, ByAnswer, Method, State}

abbrev pub target_of : KeptTarget → Target
target_of (kept.One to) = One to
target_of (kept.ByAnswer branches) = ByAnswer branches.items

abbrev pub method_of : KeptMethod → Method
method_of m = record { result = m.result; name = m.name; params = m.params.items; target = target_of m.target }

abbrev pub state_of : KeptState → State
state_of s = record { name = s.name; methods = map method_of s.methods.items; drops = s.drops }
