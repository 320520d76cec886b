-- What is said of a call: what its variable may be there, where the call leads, and what the states offer.
use Rattle.std.specs.Prelude.{ℕ, Bool, List, [], ◌++◌, None, Some, codes, slice_get}
use Rattle.std.specs.List.{flat_map}
use Rattle.mg_text.specs.Call.{Name}
use Rattle.mg_sets.specs.Sets.{members}
use Rattle.ts_tree.specs.Typestate as states
use Rattle.ts_tree.specs.Typestate.{State, Typestate}
use Rattle.jv_core.specs.Tree.{Method, Program}
use Rattle.jv_core.specs.Lookup.{text_at}
use Rattle.use_rules.specs.declared.element.Element.{Element}
use Rattle.use_rules.specs.declared.element.Element.TheVariants as elements
use Rattle.use_rules.specs.declared.key.Context.TheVariants as contexts
use Rattle.use_rules.specs.Elements.{Set, element_at}
use Rattle.use_rules.specs.Keys.{Tables, typestate_of}
use Rattle.use_rules.specs.Flow.{variable_text}
use Rattle.use_sights.specs.declared.site.Site.{Site}
use Rattle.use_sights.specs.Sights.{before, after}
use Rattle.use_check.specs.Report.{set_text}

-- The line of a state: `STATE: M1 M2 ..`, the methods that it offers in their order.

abbrev pub offered_text : states.Method → Name
offered_text m = codes " " ++ m.name

abbrev pub state_line : State → Name
state_line s = s.name ++ (codes ":" ++ (flat_map offered_text s.methods ++ codes "\n"))

-- of the state of a number
abbrev pub line_of_state : Typestate → (state : ℕ) → Name
line_of_state t q = elim (slice_get t.states q) [ None ↦ [] | Some s ↦ state_line s ]

-- of an element that is a state
abbrev pub element_line : Typestate → Element → Name
element_line t elements.Null = []
element_line t elements.Moved = []
element_line t elements.End = []
element_line t (elements.State q) = line_of_state t q

abbrev pub member_line : Typestate → (element : ℕ) → Name
member_line t e = element_line t (element_at e)

-- of all states among these elements
abbrev pub state_lines : Typestate → List ℕ → Name
state_lines t es = flat_map (member_line t) es

-- `X.M`, of a call in this method of that
abbrev pub path_text : Program → Site → Method → Method → Name
path_text p s m k = variable_text p [] (contexts.Plain s.within) m s.variable ++ (codes "." ++ text_at p k.name)

-- ` BEFORE -> AFTER`, of a call of this method on a variable that is this, and the end of the line
abbrev pub steps_text : Program → Method → Set → Name
steps_text p k b =
    set_text (typestate_of p k.class) (members b) ++ (codes " ->"
    ++ (set_text (typestate_of p k.class) (members (after p k b)) ++ codes "\n"))

-- `X.M BEFORE -> AFTER`, as `show` has it behind the place, and a line for each state that the variable may be in
abbrev pub hover_of : Program → Site → Method → Method → Set → Name
hover_of p s m k b = path_text p s m k ++ (steps_text p k b ++ state_lines (typestate_of p k.class) (members b))

-- `: AFTER`
abbrev pub hint_of : Program → Method → Set → Name
hint_of p k b = codes ":" ++ set_text (typestate_of p k.class) (members (after p k b))

-- the same of a call by the numbers that it has
abbrev pub hover_at : Program → Site → Set → Name
hover_at p s b = elim (slice_get p.methods s.within) [
  | None ↦ []
  | Some m ↦ elim (slice_get p.methods s.method) [ None ↦ [] | Some k ↦ hover_of p s m k b ]
]

abbrev pub hint_at : Program → Site → Set → Name
hint_at p s b = elim (slice_get p.methods s.method) [ None ↦ [] | Some k ↦ hint_of p k b ]

-- Under the tables of a program: what the variable may be before the call is the union over all contexts.
module _ (p : Program) (reached : List (List Bool)) (t : Tables) where
  abbrev pub hover_text : Site → Name
  hover_text s = hover_at p s (before p reached t s.place)

  abbrev pub hint_text : Site → Name
  hint_text s = hint_at p s (before p reached t s.place)
