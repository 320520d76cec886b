-- The jumps by which control leaves statements, as the walk over them keeps what was met.
use Rattle.std.specs.Prelude.{◌≡◌, Option, Some, None, Bool, false, ◌||◌, if◌then◌else◌}
use Rattle.std.specs.HashMap.{get_by_text}
use Rattle.mg_text.specs.Call.{Name}
use Rattle.jv_tree.specs.Source.{Groups, NoGroup, Group}
use Rattle.jv_rules.specs.Completes.{Exit, Breaks, Continues}
use Rattle.jv_rules.specs.inner.Leaving.{same_label, leaves_last}
use Rattle.jv_types.specs.declared.exits.Jumps.{Jumps}
use Rattle.jv_types.specs.declared.exits.Exits.{Exits}

-- what was met with each label, and without one
abbrev pub Met : Type 0
Met = Option Name → Jumps

abbrev pub jumps : Bool → Bool → Jumps
jumps breaks continues = record { breaks = breaks; continues = continues }

abbrev pub no_jumps : Jumps
no_jumps = jumps false false

abbrev pub both : Jumps → Jumps → Jumps
both a b = jumps (a.breaks || b.breaks) (a.continues || b.continues)

-- the jumps among these exits
abbrev pub jumps_by : (Exit → Bool) → Met
jumps_by these label = jumps (these (Breaks label)) (these (Continues label))

abbrev pub some_jumps : Option Jumps → Jumps
some_jumps None = no_jumps
some_jumps (Some j) = j

abbrev pub met_at : Exits → Met
met_at e None = e.plain
met_at e (Some name) = some_jumps (get_by_text e.labelled name)

-- these are what was met with this label
abbrev pub with_jumps : Met → Option Name → Jumps → Met
with_jumps met label these other = if same_label label other then these else met other

-- without what leads to a loop of this label
abbrev pub emptied : Option Name → Met → Met
emptied loop met = with_jumps (with_jumps met None no_jumps) loop no_jumps

-- what was met before, and these
abbrev pub Adds : (Exit → Bool) → Met → Met → Type 0
Adds these old new = (label : Option Name) → new label ≡ both (old label) (jumps_by these label)

-- whether the last group completes, or this where there is none
abbrev pub last_or : Bool → Groups → Bool
last_or before NoGroup = before
last_or before (Group labels body end more) = leaves_last (Group labels body end more)
