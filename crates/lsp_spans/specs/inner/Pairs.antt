-- Ranges between positions, one by one.
use Rattle.std.specs.Prelude.{List, [], ◌∷◌}
use Rattle.lsp_text.specs.declared.positions.Position.{Position}
use Rattle.lsp_text.specs.declared.changes.Range.{Range}

abbrev pub between : Position → Position → Range
between s e = record { start = s; «end» = e }

abbrev pub ranges : List Position → List Position → List Range
ranges [] es = []
ranges (s ∷ ss) [] = []
ranges (s ∷ ss) (e ∷ es) = between s e ∷ ranges ss es
