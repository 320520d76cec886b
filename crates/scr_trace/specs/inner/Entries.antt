-- How entries are written while they are settled.
use Rattle.std.specs.Prelude.{◌≡◌, ◌⊎◌, ℕ, List}
use Rattle.scr_trace.specs.declared.arrow.Hop.{Hop}
use Rattle.scr_trace.specs.declared.arrow.Hop.TheVariants as hops
use Rattle.scr_trace.specs.inner.Laying.{entry_at}

-- the entry of the one number leads on to that of the other
pub data Along (entries : List Hop) : ℕ → ℕ → Type 0 where
  here : {k : ℕ} → Along entries k k
  next : {from k to : ℕ} → entry_at from entries ≡ hops.Part k → Along entries k to → Along entries from to

-- the entry of this number is as it was, or it is `end`, and the one of `from` leads on to it
abbrev pub IsWritten : List Hop → List Hop → ℕ → Hop → ℕ → Type 0
IsWritten old new from end k = (entry_at k new ≡ entry_at k old) ⊎ ((entry_at k new ≡ end) × Along old from k)
