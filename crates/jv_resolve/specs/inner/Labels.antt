-- A label of a group.
use Rattle.std.specs.Prelude.{ℕ, Option, Some, None, option_map}
use Rattle.mg_text.specs.Call.{Name}
use Rattle.jv_tree.specs.Source.{Enum}
use Rattle.jv_meaning.specs.Program.{constant_position}

-- a label, as the position of a constant; `default` has none
abbrev pub label_at : Enum → Option Name → Option (Option ℕ)
label_at enum None = Some None
label_at enum (Some name) = option_map Some (constant_position enum name)
