-- Reading from left to right: what is read, or the first thing that is wrong; and what a function of the program says of it.
use Rattle.std.specs.Prelude.{◌≡◌, ℕ, zero, suc, Result, Ok, Err}
use Rattle.jcf_read.specs.declared.fault.FaultKind.{FaultKind}
use Rattle.jcf_read.specs.declared.fault.Fault.{Fault}
use Rattle.jcf_read.specs.declared.fault.ReadError.{ReadError}
use Rattle.jcf_read.specs.declared.fault.ReadError.TheVariants as errors

-- what is read, or else the fault
abbrev pub Read : Type 0 → Type 0
Read A = Result A Fault

infixl 10 ◌>>=◌
abbrev pub ◌>>=◌ : {A B : Type 0} → Result A Fault → (A → Result B Fault) → Result B Fault
(Ok x) >>= f = f x
(Err fault) >>= f = Err fault

-- this is wrong at this place
abbrev pub wrong : {A : Type 0} → FaultKind → ℕ → Result A Fault
wrong kind offset = Err (record { kind = kind; offset = offset })

-- so many turns, each from what the one before it read
unfoldable pub folded : {S : Type 0} → (S → Result S Fault) → ℕ → S → Result S Fault
folded turn zero s = Ok s
folded turn (suc n) s = turn s >>= λ t. folded turn n t

-- What a function returned, seen by view, is what is read, unless memory ran out.
abbrev pub Fails : {Y : Type 0} → ReadError → Result Y Fault → Type 0
Fails errors.Memory read = Unit {0}
Fails (errors.Wrong fault) read = read ≡ Err fault

abbrev pub Gives : {X Y : Type 0} → (X → Y) → Result X ReadError → Result Y Fault → Type 0
Gives see (Ok x) read = read ≡ Ok (see x)
Gives see (Err e) read = Fails e read
