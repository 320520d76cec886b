-- Sets of names, as tests.
use Rattle.std.specs.Prelude.{ℕ, Bool, List}
use Rattle.std.specs.Borrow.{Bor}
use Rattle.std.specs.HashSet.{HashSet, contains_by}
use Rattle.std.specs.List.{list_any}
use Rattle.std.specs.Str.{bytes_eq}

-- whether a name is one of these
abbrev pub among : (names : List (List ℕ)) → List ℕ → Bool
among names name = list_any (λ n. bytes_eq n name) names

-- whether a set of names that stand elsewhere has it
abbrev pub noted_in : {S : Type 0} → HashSet (Bor (List ℕ)) S → List ℕ → Bool
noted_in set name = contains_by (λ n. bytes_eq name n.now) set
