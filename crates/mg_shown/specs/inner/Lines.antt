-- The line of a call, by what its variable is before and behind it.
use Rattle.std.specs.Prelude.{ℕ, ◌++◌, List, [], None, Some, codes, slice_get}
use Rattle.mg_text.specs.Call.{Name}
use Rattle.mg_sets.specs.Sets.{members}
use Rattle.jv_core.specs.Tree.{Field, Method, Program}
use Rattle.jv_core.specs.Lookup.{text_at}
use Rattle.use_rules.specs.declared.key.Context.TheVariants as contexts
use Rattle.use_rules.specs.Elements.{Set}
use Rattle.use_rules.specs.Flow as rules
use Rattle.use_rules.specs.Keys.{typestate_of}
use Rattle.use_sights.specs.declared.site.Site.{Site}
use Rattle.use_sights.specs.Sights.{after}
use Rattle.use_check.specs.Report.{set_text}
use Rattle.mg_refusal.specs.declared.refusal.Spot.TheVariants as spots
use Rattle.mg_delivery.specs.Lines.{spot_text}

abbrev pub variable_text : Program → Site → Method → Name
variable_text p s m = rules.variable_text p [] (contexts.Plain s.within) m s.variable

-- the name of a field among these
abbrev pub field_text : Program → List Field → (field : ℕ) → Name
field_text p fields f = elim (slice_get fields f) [ None ↦ [] | Some d ↦ text_at p d.name ]

-- in this method, of that method, on a variable that is this
abbrev pub line_of : List Name → Program → Site → Method → Method → Set → Name
line_of names p s m k b =
    spot_text names (spots.Text s.place) ++ (codes ": "
    ++ (variable_text p s m ++ (codes "." ++ (text_at p k.name
    ++ (set_text (typestate_of p k.class) (members b) ++ (codes " ->"
    ++ (set_text (typestate_of p k.class) (members (after p k b)) ++ codes "\n")))))))

abbrev pub line_at : List Name → Program → Site → Set → Name
line_at names p s b = elim (slice_get p.methods s.within) [
  | None ↦ []
  | Some m ↦ elim (slice_get p.methods s.method) [ None ↦ [] | Some k ↦ line_of names p s m k b ]
]
