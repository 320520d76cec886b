-- Reading from left to right, and what a function of the program says of it.
use Rattle.std.specs.Prelude.{◌≡◌, ℕ, zero, suc, List, [], ◌∷◌, length, Option, Some, None, Result, Ok, Err, Bool, if◌then◌else◌}
use Rattle.mg_read.specs.declared.ReadError.{ReadError}
use Rattle.mg_read.specs.declared.ReadError.TheVariants as errors

infixl 10 ◌>>=◌
abbrev pub ◌>>=◌ : {A B : Type 0} → Option A → (A → Option B) → Option B
None >>= f = None
(Some x) >>= f = f x

-- What a function returned, seen by view, is what reading gives, unless memory ran out.
abbrev pub Fails : {Y : Type 0} → ReadError → Option Y → Type 0
Fails errors.Memory read = Unit {0}
Fails errors.Syntax read = read ≡ None

abbrev pub Gives : {X Y : Type 0} → (X → Y) → Result X ReadError → Option Y → Type 0
Gives see (Ok x) read = read ≡ Some (see x)
Gives see (Err e) read = Fails e read

-- a value, and what stands after it
abbrev pub Reader : Type 0 → Type 0 → Type 0
Reader T A = List T → Option (A × List T)

-- f as long as go says so
unfoldable pub many : {T A : Type 0} → (List T → Bool) → Reader T A → ℕ → Reader T (List A)
many go f zero ts = None
many go f (suc n) ts = if go ts then (f ts >>= λ x. many go f n x.1 >>= λ xs. Some (x.0 ∷ xs.0, xs.1)) else Some ([], ts)

-- The count of the tokens is always enough.
unfoldable pub all_of : {T A : Type 0} → (List T → Bool) → Reader T A → Reader T (List A)
all_of go f ts = many go f (suc (length ts)) ts
