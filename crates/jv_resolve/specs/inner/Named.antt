-- What names of variables and members are resolved to.
use Rattle.std.specs.Prelude.{List, Option, option_map}
use Rattle.mg_text.specs.Call.{Name}
use Rattle.mg_text.specs.declared.place.Place.{Place}
use Rattle.jv_core.specs.Tree as Core
use Rattle.jv_resolve_law.specs.Tables.{◌>>=◌, Tables}
use Rattle.jv_resolve_law.specs.Expressions.{Known, Standing, Resolved, Receiver, found, own_found, variable_at, constant_at}
use Rattle.jv_resolve_law.specs.Expressions.{named_receiver, only, text_call}

module _ (tables : Tables) (at : Standing) (locals : List Known) (p : Place) where
  abbrev pub variable_named : Name → Option Resolved
  variable_named name = found tables at locals name >>= variable_at tables at locals p

  abbrev pub own_named : Name → Option Resolved
  own_named name = own_found tables at name >>= variable_at tables at locals p

  abbrev pub member_named : Name → Name → Option Resolved
  member_named of name = found tables at locals of >>= constant_at tables at locals p of name

  abbrev pub receiver_named : Name → Option Receiver
  receiver_named name = option_map (named_receiver tables at locals p name) (found tables at locals name)

-- a call of a text's method, with one argument
abbrev pub text_called : Place → Core.Expr → Name → List Core.Expr → Option Resolved
text_called p text f args = only args >>= λ arg. text_call p text f arg
