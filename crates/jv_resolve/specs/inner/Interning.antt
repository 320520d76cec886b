-- A name's number, and the names with it.
use Rattle.std.specs.Prelude.{ℕ, List}
use Rattle.mg_text.specs.Call.{Name}
use Rattle.jv_resolve_law.specs.Tables.{Interned}

abbrev pub with_number : ℕ → List Name → Interned
with_number n names = record { number = n; names = names }
