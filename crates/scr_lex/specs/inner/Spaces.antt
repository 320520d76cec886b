-- Spaces between tokens.
use Rattle.std.specs.Prelude.{ℕ, Bool, ◌==◌}

abbrev pub is_space : ℕ → Bool
is_space c = c == 32
