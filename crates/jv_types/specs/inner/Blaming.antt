-- Who is at fault, and names that were met before.
use Rattle.std.specs.Prelude.{List, [], ◌∷◌, ◌++◌, is_some, position, Bool, true, false, if◌then◌else◌}
use Rattle.std.specs.Str.{bytes_eq}
use Rattle.mg_text.specs.Call.{Name}
use Rattle.mg_text.specs.Interned.{with_text}
use Rattle.mg_read.specs.Culprit.{Culprit, culprit}
use Rattle.jv_types.specs.declared.blame.Blamed.{Blamed}

abbrev pub blamed_of : Blamed → Culprit
blamed_of b = culprit b.place b.name.now

-- whether a name stands among names
abbrev pub is_in : List Name → Name → Bool
is_in seen name = is_some (position (bytes_eq name) seen)

-- the names that were met, and these
abbrev pub noted : List Name → List Name → List Name
noted seen [] = seen
noted seen (n ∷ ns) = noted (with_text seen n) ns

-- whether none of these was met, and no two are the same
abbrev pub are_new : List Name → List Name → Bool
are_new seen [] = true
are_new seen (n ∷ ns) = if is_in seen n then false else are_new (seen ++ n ∷ []) ns
