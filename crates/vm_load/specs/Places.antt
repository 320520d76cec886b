-- Places in rising order.
use Rattle.std.specs.Prelude.{ℕ, ◌<◌, List, length, get_or}

-- each number is greater than those before it
pub record AreRising (places : List ℕ) : Type 0 where
  pub each : (i j : ℕ) → i < j → j < length places → get_or places i 0 < get_or places j 0
