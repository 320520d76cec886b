-- What it is that the piece at the front, or the cause, is the right one.
use Rattle.std.proofs.Common.{◌≡◌, ℕ, List, ◌++◌, Bool, true, false, cond, refl}
use Rattle.std.specs.Prelude.{Ok, Err}
use Rattle.jv_lex.specs.Pieces.{Piece, spell, MayStand}
use Rattle.jv_lex.specs.Faults.{Stops}
use Rattle.jv_lex.specs.inner.Front.{Front}

-- the piece stands at the front of the bytes
abbrev pub Stands : List ℕ → Piece × List ℕ → Type 0
Stands bytes x = (bytes ≡ spell x.0 ++ x.1) × MayStand x.0 x.1

-- and the cause is why none stands
abbrev pub Right : List ℕ → Front → Type 0
Right bytes (Ok x) = Stands bytes x
Right bytes (Err e) = Stops bytes e.0 e.1

-- one of two ways is taken
pub right_if : (bytes : List ℕ) (b : Bool) (x y : Front) → (b ≡ true → Right bytes x) → (b ≡ false → Right bytes y) →
    Right bytes (cond b x y)
right_if bytes true x y f g = f refl
right_if bytes false x y f g = g refl
