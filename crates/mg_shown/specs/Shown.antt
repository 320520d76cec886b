-- The lines of `show`: one for each call of a protocol method, with what its variable may be there, and where the call leads.
use Rattle.std.specs.Prelude.{◌≡◌, Bool, List, [], ◌++◌, Some, None, slice_get, codes, nat_eq, nat_lt, if◌then◌else◌}
use Rattle.std.specs.List.{flat_map}
use Rattle.std.specs.List.Sorted.{IsPermutation, IsSortedBy, IsStableBy}
use Rattle.mg_text.specs.Call.{Name}
use Rattle.mg_text.specs.declared.place.Place.{Place}
use Rattle.mg_sets.specs.Sets.{members}
use Rattle.jv_core.specs.Tree.{Method, Program}
use Rattle.jv_core.specs.Lookup.{text_at}
use Rattle.use_rules.specs.declared.key.Context.TheVariants as contexts
use Rattle.use_rules.specs.Keys.{Tables, AreReached, typestate_of}
use Rattle.use_rules.specs.Flow.{variable_text}
use Rattle.use_rules.specs.Tables.{Least}
use Rattle.use_sights.specs.declared.site.Site.{Site}
use Rattle.use_sights.specs.Calls.{all_sites}
use Rattle.use_sights.specs.Sights.{before, after}
use Rattle.use_check.specs.Report.{set_text}
use Rattle.mg_refusal.specs.declared.refusal.Spot.TheVariants as spots
use Rattle.mg_delivery.specs.Lines.{spot_text}

-- Which calls have a line, and in which order.

-- by file, then by line, then by column
abbrev pub is_earlier : Place → Place → Bool
is_earlier q r =
    if nat_eq q.file r.file then (if nat_eq q.line r.line then nat_lt q.column r.column else nat_lt q.line r.line)
    else nat_lt q.file r.file

abbrev pub is_listed_before : Site → Site → Bool
is_listed_before s r = is_earlier s.place r.place

-- All calls of a program, by file and then by place. Calls at one place, which sources don't have, stand in the order of the text.
pub record AreListed (p : Program) (sites : List Site) : Type 0 where
  pub all : IsPermutation (all_sites p) sites
  pub sorted : IsSortedBy is_listed_before sites
  pub stable : IsStableBy is_listed_before (all_sites p) sites

-- The line of a call: `FILE:LINE:COLUMN: X.M BEFORE -> AFTER`, with the elements of each set as in the report.
module _ (names : List Name) (p : Program) (reached : List (List Bool)) (t : Tables) where
  -- in this method, of that method
  abbrev pub call_line : Site → Method → Method → Name
  call_line s m k =
      let b = before p reached t s.place in
      spot_text names (spots.Text s.place) ++ (codes ": "
      ++ (variable_text p [] (contexts.Plain s.within) m s.variable ++ (codes "." ++ (text_at p k.name
      ++ (set_text (typestate_of p k.class) (members b) ++ (codes " ->"
      ++ (set_text (typestate_of p k.class) (members (after p k b)) ++ codes "\n")))))))

  abbrev pub site_line : Site → Name
  site_line s = elim (slice_get p.methods s.within) [
    | None ↦ []
    | Some m ↦ elim (slice_get p.methods s.method) [ None ↦ [] | Some k ↦ call_line s m k ]
  ]

  abbrev pub shown_text : List Site → Name
  shown_text sites = flat_map site_line sites

-- What `show` puts for a program of files of these names: the lines of its calls under its least tables, whether or not demands fail.
pub record IsShown (names : List Name) (p : Program) (text : Name) : Type 0 where
  pub reached : List (List Bool)
  pub are : AreReached p reached
  pub tables : Tables
  pub least : Least p reached tables
  pub sites : List Site
  pub listed : AreListed p sites
  pub is : text ≡ shown_text names p reached tables sites

-- There is one.
abbrev pub OneShown : Type 0
OneShown = (names : List Name) (p : Program) (a b : Name) → IsShown names p a → IsShown names p b → a ≡ b
