-- What a reader that tells its bytes has given after several reads.
use Rattle.std.proofs.Common.{ℕ, List, Option}
use Rattle.std.specs.Io.KnownBytes.{Consumes}

-- these bytes were taken from the front
pub record Taken (old new : Option (List ℕ)) (bytes : List ℕ) : Type 0 where
  pub consumes : Consumes old new bytes
