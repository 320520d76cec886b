-- The states that are made of what is written, method by method.
use Rattle.std.specs.Prelude.{List, [], ◌∷◌, map}
use Rattle.std.specs.List.{flat_map}
use Rattle.mg_text.specs.Call.{Name}
use Rattle.ts_tree.specs.Typestate.{Method, State}
use Rattle.ts_parse.specs.declared.written.WrittenEntry.{WrittenEntry}
use Rattle.ts_parse.specs.declared.written.WrittenEntry.TheVariants as entries
use Rattle.ts_parse.specs.declared.written.WrittenState.{WrittenState}
use Rattle.ts_parse.specs.Written.{wmethod_of, wentry_of, has_drop}
use Rattle.ts_read.specs.Meaning.{method_meant}

-- the method that an entry means, if it is one
abbrev pub entry_made : List Name → WrittenEntry → List Method
entry_made names (entries.Method m) = method_meant names (wmethod_of m) ∷ []
entry_made names (entries.DropEnd place) = []

abbrev pub state_made : List Name → WrittenState → State
state_made names s = record {
  name = s.name.text;
  methods = flat_map (entry_made names) s.entries.items;
  drops = has_drop (map wentry_of s.entries.items);
}
