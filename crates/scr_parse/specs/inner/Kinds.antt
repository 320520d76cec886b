-- For private clauses: the table in which kinds are looked up.
use Rattle.std.specs.Prelude.{◌≡◌, List, Option, option_map, Some}
use Rattle.std.specs.HashMap.{get_by_text}
use Rattle.mg_text.specs.Call.{Name}
use Rattle.scr_tree.specs.declared.syntax.Payload.{Payload}
use Rattle.scr_tree.specs.declared.written.Declaration.{Declaration}
use Rattle.scr_tree.specs.Written.{class_among, kind_if_class}
use Rattle.scr_parse.specs.declared.types.Types.{Types}

-- the kind that the first declaration of a name gives it
abbrev pub kind_among : List Declaration → Name → Option Payload
kind_among declared alias = option_map (λ class. kind_if_class (Some class)) (class_among declared alias)

-- the table has the kinds of what is declared
abbrev pub IsTable : Types → Type 0
IsTable types = (alias : Name) → get_by_text types.kinds alias ≡ kind_among types.declared.items alias
