-- What the program's scopes say.
use Rattle.std.specs.Prelude.{List, [], ◌∷◌, option_map}
use Rattle.jv_tree.specs.Source.{Class}
use Rattle.jv_tree.specs.View.{method_of}
use Rattle.jv_scope.specs.Named.{Named}
use Rattle.jv_rules.specs.Program.{Program}
use Rattle.jv_rules.specs.Scope as rules
use Rattle.jv_types.specs.declared.scope.Around.{Around}
use Rattle.jv_types.specs.declared.scope.Around.TheVariants as kept
use Rattle.jv_types.specs.declared.scope.Scope.{Scope}
use Rattle.jv_types.specs.declared.value_type.ValueType.{ValueType as KeptType}
use Rattle.jv_types.specs.Tables.{program_in}
use Rattle.jv_types.specs.inner.Locals.{locals_seen}
use Rattle.jv_types.specs.inner.Tabled.{class_in}

abbrev pub around_seen : Around → List rules.Target
around_seen kept.Outside = []
around_seen (kept.Loop' label p around) = rules.Loop (option_map (λ l. l.now) label) ∷ around_seen around
around_seen (kept.Switch' p around) = rules.Switch ∷ around_seen around

abbrev pub program_seen : Scope → Program
program_seen s = program_in s.table.now

abbrev pub class_seen : Scope → Class
class_seen s = class_in s.class.now

abbrev pub scope_seen : Scope → List (Named KeptType) → rules.Scope
scope_seen s locals = record {
  program = program_seen s;
  class = class_seen s;
  method = method_of s.method.now;
  locals = locals_seen locals;
  around =
      around_seen s.around.now;
}
