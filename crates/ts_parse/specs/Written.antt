-- A typestate file as it is written.
use Rattle.std.specs.Prelude.{List, [], ◌∷◌, map, Bool, true, false}
use Rattle.mg_text.specs.Call.{Name}
use Rattle.mg_text.specs.declared.place.Place.{Place}
use Rattle.ts_tree.specs.declared.parts.TypeName.{TypeName}
use Rattle.ts_parse.specs.declared.written.Naming.{Naming}
use Rattle.ts_parse.specs.declared.written.WrittenBranch.{WrittenBranch}
use Rattle.ts_parse.specs.declared.written.WrittenTarget.{WrittenTarget}
use Rattle.ts_parse.specs.declared.written.WrittenTarget.TheVariants as kept
use Rattle.ts_parse.specs.declared.written.WrittenMethod.{WrittenMethod}
use Rattle.ts_parse.specs.declared.written.WrittenEntry.{WrittenEntry}
use Rattle.ts_parse.specs.declared.written.WrittenEntry.TheVariants as entries
use Rattle.ts_parse.specs.declared.written.WrittenState.{WrittenState}
use Rattle.ts_parse.specs.declared.written.WrittenTypestate.{WrittenTypestate}

-- the state that a method leads to, or the states by the labels that its calls answer with
pub data WTarget : Type 0 where
  to_one : Naming → WTarget
  by_label : List WrittenBranch → WTarget

pub record WMethod : Type 0 where
  pub result : TypeName
  pub name : Naming
  pub params : List TypeName
  pub target : WTarget

-- an entry of a state: a method, or `drop: end`, at the place of its `drop`
pub data WEntry : Type 0 where
  offer : WMethod → WEntry
  drop_end : Place → WEntry

pub record WState : Type 0 where
  pub name : Naming
  pub entries : List WEntry

pub record WFile : Type 0 where
  pub name : Name
  pub states : List WState

-- the methods among entries, in the order of the text
abbrev pub methods_in : List WEntry → List WMethod
methods_in [] = []
methods_in (offer m ∷ es) = m ∷ methods_in es
methods_in (drop_end place ∷ es) = methods_in es

-- whether `drop: end` is among entries
abbrev pub has_drop : List WEntry → Bool
has_drop [] = false
has_drop (offer m ∷ es) = has_drop es
has_drop (drop_end place ∷ es) = true

-- ---- what the program's trees say

abbrev pub wtarget_of : WrittenTarget → WTarget
wtarget_of (kept.One to) = to_one to
wtarget_of (kept.ByAnswer branches) = by_label branches.items

abbrev pub wmethod_of : WrittenMethod → WMethod
wmethod_of m = record { result = m.result; name = m.name; params = m.params.items; target = wtarget_of m.target }

abbrev pub wentry_of : WrittenEntry → WEntry
wentry_of (entries.Method m) = offer (wmethod_of m)
wentry_of (entries.DropEnd place) = drop_end place

abbrev pub wstate_of : WrittenState → WState
wstate_of s = record { name = s.name; entries = map wentry_of s.entries.items }

abbrev pub wfile_of : WrittenTypestate → WFile
wfile_of w = record { name = w.name; states = map wstate_of w.states.items }
