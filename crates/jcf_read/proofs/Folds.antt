-- A loop that takes so many turns, each from what the one before it read.
use Rattle.std.proofs.Common.{◌≡◌, ℕ, suc, ◌-◌, ◌+◌, ◌≤◌, ◌<◌, refl, sym, ◌∙◌, arith}
use Rattle.std.specs.Prelude.{Result, Ok, Err}
use Rattle.jcf_read.specs.declared.fault.Fault.{Fault}
use Rattle.jcf_read.specs.declared.fault.ReadError.{ReadError}
use Rattle.jcf_read.specs.declared.fault.ReadError.TheVariants as errors
use Rattle.jcf_read.specs.Answer.{◌>>=◌, folded, Fails}

pub begins : {S : Type 0} (turn : S → Result S Fault) (count : ℕ) (s : S) → folded turn (count - 0) s ≡ folded turn count s
begins turn count s = let k : count - 0 ≡ count = omega arith in rw k refl

pub goes_on : {S : Type 0} (turn : S → Result S Fault) {count i : ℕ} {s t : S} {total : Result S Fault} → i < count → turn s ≡ Ok t
    → folded turn (count - i) s ≡ total → folded turn (count - (i + 1)) t ≡ total
unfolding folded
goes_on turn {count = count} {i = i} {s = s} {t = t} lt h so_far =
    let k : count - i ≡ suc (count - (i + 1)) = omega arith in
    let one : folded turn (count - i) s ≡ folded turn (count - (i + 1)) t = rw (k, h) refl in
    sym one ∙ so_far

pub ends : {S : Type 0} (turn : S → Result S Fault) (s : S) {count i : ℕ} {total : Result S Fault} (e : ReadError) → i < count →
    Fails e (turn s) → folded turn (count - i) s ≡ total → Fails e total
unfolding folded
ends turn s errors.Memory lt h so_far = tt
ends turn s {count = count} {i = i} (errors.Wrong fault) lt h so_far =
    let k : count - i ≡ suc (count - (i + 1)) = omega arith in
    let one : folded turn (count - i) s ≡ Err fault = rw (k, h) refl in
    sym so_far ∙ one

pub is_done : {S : Type 0} (turn : S → Result S Fault) {count i : ℕ} {s : S} {total : Result S Fault} → count ≤ i →
    folded turn (count - i) s ≡ total → total ≡ Ok s
unfolding folded
is_done turn {count = count} {i = i} {s = s} le so_far =
    let k : count - i ≡ 0 = omega arith in
    let one : folded turn (count - i) s ≡ Ok s = rw k refl in
    sym so_far ∙ one

-- what is read and then passed over
pub passed : {A : Type 0} (read : Result (A × ℕ) Fault) (x : A × ℕ) → read ≡ Ok x → (read >>= λ y. Ok y.1) ≡ Ok x.1
passed read x e = rw e refl

pub not_passed : {A : Type 0} (read : Result (A × ℕ) Fault) (e : ReadError) → Fails e read → Fails e (read >>= λ y. Ok y.1)
not_passed read errors.Memory h = tt
not_passed read (errors.Wrong fault) h = rw h refl
