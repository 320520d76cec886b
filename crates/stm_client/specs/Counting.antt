-- How choices are counted in the order of the text, how many tests stand one inside another, and which protocols go on by `do`.
use Rattle.std.specs.Prelude.{ℕ, ◌+◌, Bool, true, false, ◌||◌, List, [], ◌∷◌, max, if◌then◌else◌}
use Rattle.std.specs.Str.{bytes_eq}
use Rattle.mg_text.specs.Call.{Name}
use Rattle.scr_tree.specs.Tree.{Statements, Nothing, Says, Choice, Rec, Continue, Do, Branches, NoBranch, Branch, Titled}
use Rattle.scr_tree.specs.Actions.{next, next_in}
use Rattle.stm_client.specs.declared.points.Numbers.{Numbers}

-- ---- the numbers of the next choice that another role makes, and of the next own one

-- where a file begins
abbrev pub start : Numbers
start = record { there = 1; own = 1 }

-- behind the opening of a choice, which is an own one or another's
abbrev pub opened : Bool → Numbers → Numbers
opened own at = record { there = if own then at.there else at.there + 1; own = if own then at.own + 1 else at.own }

abbrev mutual
  -- which number the next own choice has, behind statements
  pub next_own : Name → ℕ → Statements → ℕ
  next_own me k Nothing = k
  next_own me k (Says m rest) = next_own me k rest
  next_own me k (Choice place by branches rest) = next_own me (next_own_in me (if bytes_eq by me then k + 1 else k) branches) rest
  next_own me k (Rec place name body rest) = next_own me (next_own me k body) rest
  next_own me k (Continue place name rest) = next_own me k rest
  next_own me k (Do place name rest) = next_own me k rest

  pub next_own_in : Name → ℕ → Branches → ℕ
  next_own_in me k NoBranch = k
  next_own_in me k (Branch b more) = next_own_in me (next_own me k b) more

-- both numbers, behind statements and behind branches
abbrev pub behind : Name → Numbers → Statements → Numbers
behind me at body = record { there = next me at.there body; own = next_own me at.own body }

abbrev pub behind_in : Name → Numbers → Branches → Numbers
behind_in me at branches = record { there = next_in me at.there branches; own = next_own_in me at.own branches }

-- how many own choices protocols have, where there are so many before
abbrev pub own_choices : Name → ℕ → List Titled → ℕ
own_choices me k [] = k
own_choices me k (t ∷ ts) = own_choices me (next_own me k t.body) ts

-- ---- how many branches of own choices stand one inside another

-- each branch of an own choice stands one deeper than the one before it, since it is tried where that isn't taken
abbrev pub deeper : Bool → ℕ → ℕ
deeper true level = level + 1
deeper false level = level

abbrev mutual
  -- how deep the deepest branch stands in statements, which stand so deep themselves
  pub deepest : Name → ℕ → Statements → ℕ
  deepest me level Nothing = level
  deepest me level (Says m rest) = deepest me level rest
  deepest me level (Choice place by branches rest) = max (deepest_in me (bytes_eq by me) level branches) (deepest me level rest)
  deepest me level (Rec place name body rest) = max (deepest me level body) (deepest me level rest)
  deepest me level (Continue place name rest) = deepest me level rest
  deepest me level (Do place name rest) = deepest me level rest

  -- the same of the branches of a choice, which is an own one or another's
  pub deepest_in : Name → Bool → ℕ → Branches → ℕ
  deepest_in me own level NoBranch = level
  deepest_in me own level (Branch b more) = max (deepest me (deeper own level) b) (deepest_in me own (deeper own level) more)

abbrev pub deepest_of_all : Name → List Titled → ℕ
deepest_of_all me [] = 0
deepest_of_all me (t ∷ ts) = max (deepest me 0 t.body) (deepest_of_all me ts)

-- ---- whether a protocol goes on as another, or as itself, by `do`

abbrev mutual
  pub goes_on : Statements → Bool
  goes_on Nothing = false
  goes_on (Says m rest) = goes_on rest
  goes_on (Choice place by branches rest) = some_goes_on branches || goes_on rest
  goes_on (Rec place name body rest) = goes_on body || goes_on rest
  goes_on (Continue place name rest) = goes_on rest
  goes_on (Do place name rest) = true

  pub some_goes_on : Branches → Bool
  some_goes_on NoBranch = false
  some_goes_on (Branch b more) = goes_on b || some_goes_on more

abbrev pub any_goes_on : List Titled → Bool
any_goes_on [] = false
any_goes_on (t ∷ ts) = goes_on t.body || any_goes_on ts
