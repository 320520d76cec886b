-- Finding who breaks a condition, from the front on.
use Rattle.std.specs.Prelude.{List, [], ◌∷◌, ◌++◌, map, Option, Some, None, is_some, position, Bool, true, false, ◌||◌, if◌then◌else◌}
use Rattle.std.specs.Prelude.{codes}
use Rattle.std.specs.Option.{option_or}
use Rattle.std.specs.Str.{bytes_eq}
use Rattle.mg_text.specs.Call.{Name}
use Rattle.mg_text.specs.Interned.{with_text}
use Rattle.mg_read.specs.Culprit.{Culprit, culprit}
use Rattle.ts_parse.specs.declared.written.Naming.{Naming}
use Rattle.ts_parse.specs.declared.written.WrittenBranch.{WrittenBranch}
use Rattle.ts_parse.specs.declared.written.WrittenTarget.{WrittenTarget}
use Rattle.ts_parse.specs.declared.written.WrittenTarget.TheVariants as kept
use Rattle.ts_parse.specs.declared.written.WrittenMethod.{WrittenMethod}
use Rattle.ts_parse.specs.declared.written.WrittenEntry.{WrittenEntry}
use Rattle.ts_parse.specs.declared.written.WrittenEntry.TheVariants as entries
use Rattle.ts_parse.specs.declared.written.WrittenState.{WrittenState}
use Rattle.ts_read.specs.declared.blame.Blamed.{Blamed}
use Rattle.ts_read.specs.Conditions.{blamed}

abbrev pub blamed_of : Blamed → Culprit
blamed_of b = culprit b.place b.name

-- whether a text stands among texts
abbrev pub is_in : List Name → Name → Bool
is_in seen text = is_some (position (bytes_eq text) seen)

-- the first name that was seen before, or stands among the earlier ones
abbrev pub repeat_in : List Name → List Naming → Option Culprit
repeat_in seen [] = None
repeat_in seen (n ∷ ns) = if is_in seen n.text then Some (blamed n) else repeat_in (seen ++ n.text ∷ []) ns

-- the first that is there
abbrev pub first_some : {C : Type 0} → List (Option C) → Option C
first_some [] = None
first_some (o ∷ os) = option_or o (first_some os)

abbrev pub state_name : WrittenState → Naming
state_name s = s.name

abbrev pub method_name : WrittenMethod → Naming
method_name m = m.name

abbrev pub label_name : WrittenBranch → Naming
label_name b = b.label

abbrev pub branches_in : WrittenTarget → List WrittenBranch
branches_in (kept.One to) = []
branches_in (kept.ByAnswer branches) = branches.items

-- what is found at a method; at `drop: end` nothing is
abbrev pub at_method : {C : Type 0} → (WrittenMethod → Option C) → WrittenEntry → Option C
at_method f (entries.Method m) = f m
at_method f (entries.DropEnd place) = None

-- the first entry that is the same as an earlier one: `drop: end` was seen or not, and methods of these names
abbrev pub twice_in : Bool → List Name → List WrittenEntry → Option Culprit
twice_in dropped seen [] = None
twice_in dropped seen (entries.Method m ∷ es) = if is_in seen m.name.text then Some (blamed m.name) else twice_in dropped
    (seen ++ m.name.text ∷ []) es
twice_in dropped seen (entries.DropEnd place ∷ es) = if dropped then Some (culprit place (codes "drop")) else twice_in true seen es

abbrev pub repeat_entry : WrittenState → Option Culprit
repeat_entry s = twice_in false [] s.entries.items

abbrev pub repeat_label : WrittenMethod → Option Culprit
repeat_label m = repeat_in [] (map label_name (branches_in m.target))

abbrev pub repeat_labels : WrittenState → Option Culprit
repeat_labels s = first_some (map (at_method repeat_label) s.entries.items)

-- the first name that is neither the end nor a state
abbrev pub is_known : List Name → Name → Bool
is_known states text = bytes_eq text (codes "end") || is_in states text

abbrev pub unknown_name : List Name → Naming → Option Culprit
unknown_name states n = if is_known states n.text then None else Some (blamed n)

abbrev pub unknown_to : List Name → WrittenBranch → Option Culprit
unknown_to states b = unknown_name states b.to

abbrev pub unknown_target : List Name → WrittenTarget → Option Culprit
unknown_target states (kept.One to) = unknown_name states to
unknown_target states (kept.ByAnswer branches) = first_some (map (unknown_to states) branches.items)

abbrev pub unknown_method : List Name → WrittenMethod → Option Culprit
unknown_method states m = unknown_target states m.target

abbrev pub unknown_state : List Name → WrittenState → Option Culprit
unknown_state states s = first_some (map (at_method (unknown_method states)) s.entries.items)

-- a state that is named as the end is
abbrev pub named_end : WrittenState → Option Culprit
named_end s = if bytes_eq s.name.text (codes "end") then Some (blamed s.name) else None

-- the names that were met, and these
abbrev pub noted : List Name → List Naming → List Name
noted seen [] = seen
noted seen (n ∷ ns) = noted (with_text seen n.text) ns
