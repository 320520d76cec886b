-- Reading values up to a count, as a loop does.
use Rattle.std.proofs.Common.{◌≡◌, ℕ, suc, ◌-◌, ◌+◌, ◌≤◌, ◌<◌, List, [], ◌∷◌, ◌++◌, Option, Some, None, refl, sym, ap, ◌∙◌, append_assoc}
use Rattle.std.proofs.Common.{append-nil, arith}
use Rattle.mg_read.specs.declared.ReadError.{ReadError}
use Rattle.mg_read.specs.declared.ReadError.TheVariants as errors
use Rattle.mg_read.specs.Reader.{Reader, ◌>>=◌, Fails}
use Rattle.mg_read.proofs.Loop.{with_front}
use Rattle.cls_bytes.specs.Reading.{counted}

regroup : {A : Type 0} (front : List A) (x : A) (read : Option (List A × List ℕ)) → with_front front (read >>= λ y. Some (x ∷ y.0, y.1)) ≡
    with_front (front ++ x ∷ []) read
regroup front x (Some y) = ap (λ xs. Some (xs, y.1)) (sym (append_assoc front (x ∷ []) y.0))
regroup front x None = refl

nothing_in_front : {A : Type 0} (read : Option (List A × List ℕ)) → with_front [] read ≡ read
nothing_in_front (Some y) = refl
nothing_in_front None = refl

pub begins : {A : Type 0} (f : Reader ℕ A) (count : ℕ) (bytes : List ℕ) → with_front [] (counted f (count - 0) bytes) ≡ counted f count
    bytes
begins f count bytes =
    let k : count - 0 ≡ count = omega arith in
    rw k (nothing_in_front (counted f count bytes))

pub goes_on : {A : Type 0} (f : Reader ℕ A) (front : List A) (count i : ℕ) (bytes : List ℕ) (x : A) (after : List ℕ)
    (total : Option (List A × List ℕ)) → i < count → f bytes ≡ Some (x, after)
    → with_front front (counted f (count - i) bytes) ≡ total → with_front (front ++ x ∷ []) (counted f (count - (i + 1)) after) ≡ total
unfolding counted
goes_on f front count i bytes x after total lt h so_far =
    let k : count - i ≡ suc (count - (i + 1)) = omega arith in
    let one : with_front front (counted f (count - i) bytes) ≡ with_front (front ++ x ∷ []) (counted f (count - (i + 1)) after) =
    rw (k, h) (regroup front x (counted f (count - (i + 1)) after)) in
    sym one ∙ so_far

pub ends : {A : Type 0} (f : Reader ℕ A) (e : ReadError) (front : List A) (count i : ℕ) (bytes : List ℕ) (total : Option (List A × List ℕ))
    → i < count → Fails e (f bytes)
    → with_front front (counted f (count - i) bytes) ≡ total → Fails e total
unfolding counted
ends f errors.Memory front count i bytes total lt h so_far = tt
ends f errors.Syntax front count i bytes total lt h so_far =
    let k : count - i ≡ suc (count - (i + 1)) = omega arith in
    let one : with_front front (counted f (count - i) bytes) ≡ None = rw (k, h) refl in
    sym so_far ∙ one

pub is_done : {A : Type 0} (f : Reader ℕ A) (front : List A) (count i : ℕ) (bytes : List ℕ) (total : Option (List A × List ℕ)) → count ≤ i →
    with_front front (counted f (count - i) bytes) ≡ total → total ≡ Some (front, bytes)
unfolding counted
is_done f front count i bytes total le so_far =
    let k : count - i ≡ 0 = omega arith in
    let one : with_front front (counted f (count - i) bytes) ≡ Some (front, bytes) = rw k (ap (λ xs. Some (xs, bytes)) (append-nil front))
    in
    sym so_far ∙ one
