-- Where the scan of the bytes stands.
use Rattle.std.specs.Prelude.{◌≡◌, ℕ, ◌+◌, List, [], length}
use Rattle.jv_lex.specs.declared.fault.Cause.{Cause}
use Rattle.jv_lex.specs.Faults.{Stops}
use Rattle.jv_lex.specs.Pieces.{Piece, Cut}

-- the bytes are cut whole
abbrev pub IsWhole : List ℕ → Type 0
IsWhole bytes = (pieces : List Piece) × Cut pieces bytes []

-- the pieces end at this offset or before it, with this cause
pub record IsStopped (bytes : List ℕ) (cause : Cause) (k : ℕ) : Type 0 where
  pub pieces : List Piece
  pub rest : List ℕ
  pub behind : ℕ
  pub cut : Cut pieces bytes rest
  pub stops : Stops rest cause behind
  pub here : k + length rest ≡ length bytes + behind
