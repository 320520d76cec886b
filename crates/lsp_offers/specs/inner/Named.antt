-- The names of what each element of a set offers, as the code keeps them.
use Rattle.std.specs.Prelude.{ℕ, Bool, List, [], fold, filter, map, not, if◌then◌else◌}
use Rattle.std.specs.List.{list_any, list_all}
use Rattle.std.specs.Str.{bytes_eq}
use Rattle.mg_text.specs.Call.{Name}
use Rattle.mg_text.specs.Interned.{with_text}
use Rattle.ts_tree.specs.Typestate.{Method, State}
use Rattle.lsp_messages.specs.declared.outgoing.Item.{Item}
use Rattle.lsp_offers.specs.Items.{methods_at, item_of}

-- the names of methods, each once
abbrev pub names_of : List Method → List Name
names_of ms = fold with_text [] (map (λ m. m.name) ms)

-- for each element
abbrev pub tables_of : List State → List ℕ → List (List Name)
tables_of states elements = map (λ e. names_of (methods_at states e)) elements

module _ (tables : List (List Name)) where
  -- each of the tables has a name
  abbrev pub all_have : Name → Bool
  all_have name = list_all (list_any (bytes_eq name)) tables

  abbrev pub is_chosen_by : (always : Bool) → Method → Bool
  is_chosen_by always m = if always then all_have m.name else not (all_have m.name)

  -- the items of the methods that all have, or of the others
  abbrev pub chosen_by : (always : Bool) → List Method → List Item
  chosen_by always ms = map (item_of always) (filter (is_chosen_by always) ms)
