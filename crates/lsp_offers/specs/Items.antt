-- Which methods are offered on a variable that may be in the elements of a set.
use Rattle.std.specs.Prelude.{ℕ, suc, Bool, true, false, not, List, [], ◌++◌, None, Some, map, filter, slice_get, if◌then◌else◌}
use Rattle.std.specs.List.{list_any, list_all, flat_map}
use Rattle.std.specs.Str.{bytes_eq}
use Rattle.mg_text.specs.Call.{Name}
use Rattle.mg_sets.specs.Sets.{members}
use Rattle.ts_tree.specs.Typestate.{Method, State}
use Rattle.lsp_messages.specs.declared.outgoing.Item.{Item}
use Rattle.lsp_offers.specs.declared.firsts.By.TheVariants as bys
use Rattle.lsp_offers.specs.Calls.{signature}
use Rattle.lsp_offers.specs.Firsts.{firsts}

-- What an element offers: null, what was moved and the end come before the states, and offer nothing.
abbrev pub methods_at : List State → (element : ℕ) → List Method
methods_at states (suc (suc (suc q))) = elim (slice_get states q) [ None ↦ [] | Some s ↦ s.methods ]
methods_at states _ = []

-- whether one of these methods has this name
abbrev pub has : Name → List Method → Bool
has name ms = list_any (λ m. bytes_eq name m.name) ms

abbrev pub item_of : (always : Bool) → Method → Item
item_of always m = record { name = m.name; signature = signature m; always = always }

module _ (states : List State) (set : List Bool) where
  -- each element offers a method of this name
  abbrev pub all_offer : Name → Bool
  all_offer name = list_all (λ e. has name (methods_at states e)) (members set)

  -- what all elements offer together, each name once
  abbrev pub offered : List Method
  offered = firsts bys.Name (flat_map (methods_at states) (members set))

  -- those of them that each element offers, or the others
  abbrev pub is_chosen : (always : Bool) → Method → Bool
  is_chosen always m = if always then all_offer m.name else not (all_offer m.name)

  abbrev pub chosen : (always : Bool) → List Method → List Item
  chosen always ms = map (item_of always) (filter (is_chosen always) ms)

  -- first what each element offers, then what only some do
  abbrev pub items_of : List Item
  items_of = chosen true offered ++ chosen false offered
