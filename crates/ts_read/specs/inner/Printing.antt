-- What is written behind the first text of several.
use Rattle.std.specs.Prelude.{ℕ, List, ◌++◌, codes}
use Rattle.std.specs.List.{flat_map}

-- each text on a line of its own, behind a comma
abbrev pub behind : List (List ℕ) → List ℕ
behind = flat_map (λ t. codes ",\n" ++ t)
