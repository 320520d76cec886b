-- Numbers of several bytes: what is read is spelled so, and what is spelled so is read.
use Rattle.std.proofs.Common.{◌≡◌, ℕ, ◌^◌, ◌<◌, ◌≤◌, List, [], ◌∷◌, ◌++◌, length, take, drop, false, eqb, ltb, Some, refl, sym, ap, subst}
use Rattle.std.proofs.Common.{◌∙◌, length-append, arith}
use Rattle.std.proofs.lemmas.Bool.{ltb-false, le-ltb, eqb-true, eq-eqb}
use Rattle.std.proofs.lemmas.List.{drop_at, take-append-drop}
use Rattle.std.proofs.lemmas.Nat.{be_bytes_2, be_bytes_4}
use Rattle.byteorder.specs.Endian.{big_number, big_bytes}
use Rattle.byteorder.specs.Numbers.{big_number-reads_back, big_from-lt, length-bytes_high_first}
use Rattle.mg_read.proofs.Steps.{some_is}
use Rattle.cls_tree.specs.Layout.{u2, u4}
use Rattle.cls_tree.specs.Fits.{IsU2}
use Rattle.cls_bytes.specs.Reading.{number_at, behind}
use Rattle.cls_layout.proofs.Held.{held, passed}
use Rattle.cls_bytes.proofs.Steps.{IsBytes, IsBytes-drop, IsBytes-take, Takes, IsSound, IsComplete, read}

abbrev pub IsU4 : ℕ → Type 0
IsU4 n = n < 2 ^ 32

-- the number in n bytes is spelled by them
abbrev IsSpelled : ℕ → Type 0
IsSpelled n = (bytes : List ℕ) → n ≤ length bytes → IsBytes bytes → big_bytes n (big_number n bytes) ≡ take n bytes

spelled2 : IsSpelled 2
spelled2 [] le fits = absurd (omega arith)
spelled2 (a ∷ []) le fits = absurd (omega arith)
spelled2 (a ∷ b ∷ bytes) le fits = be_bytes_2 (a ∷ b ∷ []) (big_number 2 (a ∷ b ∷ bytes)) refl (IsBytes-take 2 (a ∷ b ∷ bytes) fits)
    (omega arith)

spelled4 : IsSpelled 4
spelled4 [] le fits = absurd (omega arith)
spelled4 (a ∷ []) le fits = absurd (omega arith)
spelled4 (a ∷ b ∷ []) le fits = absurd (omega arith)
spelled4 (a ∷ b ∷ c ∷ []) le fits = absurd (omega arith)
spelled4 (a ∷ b ∷ c ∷ d ∷ bytes) le fits = be_bytes_4 (a ∷ b ∷ c ∷ d ∷ []) (big_number 4 (a ∷ b ∷ c ∷ d ∷ bytes)) refl
    (IsBytes-take 4 (a ∷ b ∷ c ∷ d ∷ bytes) fits) (omega arith)

number_sound : (n : ℕ) → IsSpelled n → IsSound (number_at n) (big_bytes n) (λ x. x < 256 ^ n)
unfolding number_at
number_sound n spelled bytes x fits e =
    let p = passed (ltb (length bytes) n) (Some (big_number n bytes, drop n bytes)) x e in
    let long : n ≤ length bytes = ltb-false _ _ p.0 in
    let front = spelled bytes long fits in
    let t : Takes bytes (big_bytes n (big_number n bytes)) (drop n bytes) =
    record {
      parts = sym (take-append-drop n bytes) ∙ ap (λ (f : List ℕ). f ++ drop n bytes) (sym front);
      rest_fits =
          IsBytes-drop n bytes fits;
    } in
    subst (λ (y : ℕ × List ℕ). Takes bytes (big_bytes n y.0) y.1 × (y.0 < 256 ^ n)) (some_is (big_number n bytes, drop n bytes) x p.1)
    (t, big_from-lt 0 n bytes fits)

number_complete : (n : ℕ) → IsComplete (number_at n) (big_bytes n) (λ x. x < 256 ^ n)
unfolding number_at
number_complete n x rest lt =
    let len = length-bytes_high_first n x in
    let long : ltb (length (big_bytes n x ++ rest)) n ≡ false = le-ltb _ _ (omega (arith, len, length-append (big_bytes n x) rest)) in
    rw (long, drop_at (big_bytes n x) rest n len, big_number-reads_back n x rest lt) refl

pub u2_sound : IsSound (number_at 2) u2 IsU2
u2_sound = number_sound 2 spelled2

pub u2_complete : IsComplete (number_at 2) u2 IsU2
u2_complete = number_complete 2

pub u4_sound : IsSound (number_at 4) u4 IsU4
u4_sound = number_sound 4 spelled4

pub u4_complete : IsComplete (number_at 4) u4 IsU4
u4_complete = number_complete 4

-- a number that must be this one
pub behind_sound : (n wanted : ℕ) (ok : ℕ → Type 0) → IsSound (number_at n) (big_bytes n) ok → (bytes rest : List ℕ) → IsBytes bytes →
    behind n wanted bytes ≡ Some rest → Takes bytes (big_bytes n wanted) rest
unfolding behind
behind_sound n wanted ok sound bytes rest fits e =
    let x = read (number_at n) (big_bytes n) ok _ bytes rest sound fits e in
    let h = held (eqb x.value wanted) (Some x.rest) rest x.goes_on in
    subst (λ (r : List ℕ). Takes bytes (big_bytes n wanted) r) (some_is x.rest rest h.1)
    (subst (λ (k : ℕ). Takes bytes (big_bytes n k) x.rest) (eqb-true x.value wanted h.0) x.takes)

pub behind_complete : (n wanted : ℕ) (ok : ℕ → Type 0) → IsComplete (number_at n) (big_bytes n) ok → ok wanted → (rest : List ℕ) →
    behind n wanted (big_bytes n wanted ++ rest) ≡ Some rest
unfolding behind
behind_complete n wanted ok complete lt rest = rw (complete wanted rest lt, eq-eqb wanted wanted refl) refl
