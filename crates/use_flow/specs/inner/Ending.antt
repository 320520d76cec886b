-- What a method leaves behind, as the code says it.
use Rattle.std.specs.Prelude.{ℕ, List, [], Option, Some, None, option_map, slice_get, if◌then◌else◌}
use Rattle.std.specs.List.{list_any}
use Rattle.mg_text.specs.Call.{Name}
use Rattle.mg_text.specs.declared.place.Place.{Place}
use Rattle.ts_tree.specs.declared.parts.To.{To}
use Rattle.ts_tree.specs.Calls.{may_end}
use Rattle.jv_core.specs.Lookup.{text_at}
use Rattle.jv_core.specs.Tree.{Expr}
use Rattle.use_rules.specs.Elements.{Set}
use Rattle.use_rules.specs.Keys.{typestate_of}
use Rattle.use_rules.specs.State.{Now, Log, sends, asks}
use Rattle.use_rules.specs.Flow as rules
use Rattle.use_flow.specs.inner.Followed.{Followed, own_fields, open_fields, to_states}

abbrev pub followed : Followed → (class state : ℕ) → Option Name → List To
followed s = rules.followed s.program s.contexts s.context s.method

-- what a protocol method leaves of the fields, where calls lead to these places
abbrev pub fields_left : Followed → (class : ℕ) → List To → Place → List Set → Log → Log
fields_left s c tos q sets log =
    asks (if list_any (may_end (typestate_of s.program c)) tos then open_fields s q 0 (own_fields s) sets else [])
    (sends (to_states s c tos sets) log)

abbrev pub leaves_fields : Followed → Place → (answer : Option Name) → List Set → Log → Log
leaves_fields s = rules.leaves_fields s.program s.contexts s.context s.method

abbrev pub left : Followed → Place → (answer : Option Name) → Set → (scope : List ℕ) → Now → Log → Log
left s = rules.left s.program s.contexts s.context s.method

-- the name of a constant of an enum
abbrev pub constant_of : Followed → (enum position : ℕ) → Option Name
constant_of s e n =
    elim (slice_get s.program.enums e) [ None ↦ None | Some d ↦ option_map (text_at s.program) (slice_get d.constants n) ]

abbrev pub answer_of : Followed → Option Expr → Option Name
answer_of s = rules.answer_of s.program s.contexts s.context s.method
