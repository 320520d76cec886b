-- How many classes of a program have a name.
use Rattle.std.specs.Prelude.{◌≡◌, ℕ, ◌+◌, ◌<◌, ◌≤◌, List, [], ◌∷◌, get_or, Some, position, if◌then◌else◌}
use Rattle.std.specs.Str.{bytes_eq}
use Rattle.mg_text.specs.Call.{Name}
use Rattle.vm_model.specs.Program.{Program}

abbrev pub times : Program → Name → ℕ
times [] name = 0
times (c ∷ cs) name = (if bytes_eq name c.name then 1 else 0) + times cs name

-- a count of things that stops at 2
pub record IsCount (t c : ℕ) : Type 0 where
  pub few : c < 2 → t ≡ c
  pub many : 2 ≤ c → 2 ≤ t

-- counts of the classes of each name, by the number of the name
abbrev pub AreCounted : List Name → Program → List ℕ → Type 0
AreCounted names p counts = (name : Name) (number : ℕ) → position (bytes_eq name) names ≡ Some number →
    IsCount (times p name) (get_or counts number 0)
