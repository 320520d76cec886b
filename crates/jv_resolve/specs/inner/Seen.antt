-- What the parts of the code say as trees.
use Rattle.std.specs.Prelude.{List, [], ◌∷◌, map, option_map}
use Rattle.jv_tree.specs.View.{class_of, enum_of, field_of, method_of}
use Rattle.jv_core.specs.View.{expr_of}
use Rattle.jv_types.specs.declared.entry.ClassEntry.{ClassEntry}
use Rattle.jv_types.specs.declared.name_table.Table.{Table}
use Rattle.jv_types.specs.Tables.{program_in, class_entries_of, enum_entries_of}
use Rattle.jv_resolve_law.specs.Tables.{Entry, Tables as Tabled, Callee as Called, Placed, Numbered}
use Rattle.jv_resolve_law.specs.Expressions.{Given as GivenType, OfNull, Of, Resolved as ResolvedExpr, Standing, Found as FoundVariable}
use Rattle.jv_resolve_law.specs.Statements.{Around as Target, InLoop, InSwitch}
use Rattle.jv_resolve.specs.declared.given.Given.{Given}
use Rattle.jv_resolve.specs.declared.given.Given.TheVariants as kept_given
use Rattle.jv_resolve.specs.declared.given.Operand.{Operand}
use Rattle.jv_resolve.specs.declared.given.Resolved.{Resolved}
use Rattle.jv_resolve.specs.declared.lookup.Callee.{Callee}
use Rattle.jv_resolve.specs.declared.lookup.PlacedField.{PlacedField}
use Rattle.jv_resolve.specs.declared.lookup.NumberedEnum.{NumberedEnum}
use Rattle.jv_resolve.specs.declared.scope.Scope.{Scope}
use Rattle.jv_resolve.specs.declared.scope.Found.{Found}
use Rattle.jv_resolve.specs.declared.scope.Around.{Around}
use Rattle.jv_resolve.specs.declared.scope.Around.TheVariants as kept_around

abbrev pub given_seen : Given → GivenType
given_seen kept_given.Null = OfNull
given_seen (kept_given.Of ty) = Of ty

abbrev pub resolved_seen : Resolved → ResolvedExpr
resolved_seen r = record { expr = expr_of r.expr; given = given_seen r.given }

abbrev pub operand_seen : Operand → ResolvedExpr
operand_seen o = record { expr = expr_of o.expr.value; given = given_seen o.given }

abbrev pub entry_seen : ClassEntry → Entry
entry_seen e = record {
  class = class_of e.class.now;
  number = e.number;
  first_method = e.first_method;
  typestate = option_map (λ t. t.number) e.typestate;
}

abbrev pub tables_seen : Table → Tabled
tables_seen t = record {
  classes = map entry_seen (class_entries_of t);
  enums = map (λ e. enum_of e.of.now) (enum_entries_of t);
  typestates = (program_in t).typestates;
}

abbrev pub callee_seen : Callee → Called
callee_seen c = record { method = method_of c.method.now; number = c.number }

abbrev pub placed_seen : PlacedField → Placed
placed_seen p = record { field = field_of p.field.now; place = p.place }

abbrev pub numbered_seen : NumberedEnum → Numbered
numbered_seen e = record { number = e.number; enum = enum_of e.entry.now.of.now }

abbrev pub standing_seen : Scope → Standing
standing_seen s = record { entry = entry_seen s.class.now; is_static = s.is_static }

abbrev pub found_seen : Found → FoundVariable
found_seen f = record { var = f.var; ty = f.ty }

abbrev pub around_seen : Around → List Target
around_seen kept_around.Outside = []
around_seen (kept_around.Loop' label n p further) = InLoop (option_map (λ l. l.now) label) n ∷ around_seen further
around_seen (kept_around.Switch' p further) = InSwitch ∷ around_seen further
