-- Reading on and on: one thing made larger by what comes next.
use Rattle.std.specs.Prelude.{ℕ, zero, suc, List, length, Some, None, Bool, if◌then◌else◌}
use Rattle.mg_read.specs.Reader.{Reader, ◌>>=◌}

-- a step after another, as long as `go` says so
unfoldable pub grow : {T A : Type 0} → (List T → Bool) → (A → Reader T A) → ℕ → A → Reader T A
grow go step zero acc ts = None
grow go step (suc n) acc ts = if go ts then (step acc ts >>= λ x. grow go step n x.0 x.1) else Some (acc, ts)

-- The count of the tokens is always enough.
unfoldable pub grown : {T A : Type 0} → (List T → Bool) → (A → Reader T A) → A → Reader T A
grown go step acc ts = grow go step (suc (length ts)) acc ts
