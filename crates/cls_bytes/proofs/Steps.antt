-- What a reader takes from the front of bytes, step by step.
use Rattle.std.proofs.Common.{◌≡◌, ℕ, suc, ◌+◌, ◌<◌, List, [], ◌∷◌, ◌++◌, get_or, take, drop, Option, Some}
use Rattle.std.proofs.Common.{sym, ap, ◌∙◌, append_assoc, append-nil, length-take, arith, inl, inr}
use Rattle.std.proofs.lemmas.Bool.{cases_lt}
use Rattle.std.proofs.lemmas.List.{get_or-drop, get_or-take, get_or_past}
use Rattle.mg_read.specs.Reader.{Reader, ◌>>=◌}
use Rattle.mg_read.proofs.Steps.{bind_some}

abbrev pub IsBytes : List ℕ → Type 0
IsBytes bytes = (i : ℕ) → get_or bytes i 0 < 256

pub IsBytes-drop : (n : ℕ) (bytes : List ℕ) → IsBytes bytes → IsBytes (drop n bytes)
IsBytes-drop n bytes h i = rw get_or-drop (h (n + i))

pub IsBytes-take : (n : ℕ) (bytes : List ℕ) → IsBytes bytes → IsBytes (take n bytes)
IsBytes-take n bytes h i =
    elim (cases_lt i n) [
      | inl lt ↦ rw (get_or-take n bytes i 0 lt) (h i)
      | inr le ↦ rw (get_or_past (take n bytes) i 0 (omega (arith, length-take n bytes))) (omega arith)
    ]

pub IsBytes-rest : (b : ℕ) (bytes : List ℕ) → IsBytes (b ∷ bytes) → IsBytes bytes
IsBytes-rest b bytes h i = h (suc i)

-- the bytes are this text, and then rest
pub record Takes (bytes text rest : List ℕ) : Type 0 where
  pub parts : bytes ≡ text ++ rest
  pub rest_fits : IsBytes rest

pub Takes-then : (a x b y c : List ℕ) → Takes a x b → Takes b y c → Takes a (x ++ y) c
Takes-then a x b y c p q = record {
  parts = p.parts ∙ ap (λ (t : List ℕ). x ++ t) q.parts ∙ sym (append_assoc x y c);
  rest_fits =
      q.rest_fits;
}

pub Takes-all : (bytes text rest : List ℕ) → Takes bytes text rest → rest ≡ [] → bytes ≡ text
Takes-all bytes text rest t e = t.parts ∙ ap (λ (r : List ℕ). text ++ r) e ∙ append-nil text

-- what f reads is spelled so
abbrev pub IsSound : {A : Type 0} → Reader ℕ A → (A → List ℕ) → (A → Type 0) → Type 0
IsSound {A = A} f spell ok = (bytes : List ℕ) (x : A × List ℕ) → IsBytes bytes → f bytes ≡ Some x → Takes bytes (spell x.0) x.1 × ok x.0

-- what is spelled so f reads, whatever follows
abbrev pub IsComplete : {A : Type 0} → Reader ℕ A → (A → List ℕ) → (A → Type 0) → Type 0
IsComplete {A = A} f spell ok = (x : A) (rest : List ℕ) → ok x → f (spell x ++ rest) ≡ Some (x, rest)

-- a first step that was taken
pub record Read {A B : Type 0} (spell : A → List ℕ) (ok : A → Type 0) (next : A × List ℕ → Option B) (bytes : List ℕ) (y : B) : Type 0 where
  pub value : A
  pub rest : List ℕ
  pub takes : Takes bytes (spell value) rest
  pub fits : ok value
  pub goes_on : next (value, rest) ≡ Some y

pub read : {A B : Type 0} (f : Reader ℕ A) (spell : A → List ℕ) (ok : A → Type 0) (next : A × List ℕ → Option B) (bytes : List ℕ) (y : B) →
    IsSound f spell ok → IsBytes bytes → (f bytes >>= next) ≡ Some y → Read spell ok next bytes y
read f spell ok next bytes y sound fits e =
    let x = bind_some (f bytes) next y e in
    let t = sound bytes x.0 fits x.1 in
    record { value = x.0.0; rest = x.0.1; takes = t.0; fits = t.1; goes_on = x.2 }
