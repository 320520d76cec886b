-- Where a method of a name stands.
use Rattle.std.proofs.Common.{◌≡◌, ◌≢◌, ℕ, zero, suc, ◌+◌, ◌<◌, ◌≤◌, Bool, true, false, List, [], ◌∷◌, length, drop, map, Option, Some}
use Rattle.std.proofs.Common.{None, option_map, slice_get, refl, sym, ap, subst, ◌∙◌, arith}
use Rattle.std.specs.Prelude.{Contains, IfSome}
use Rattle.std.proofs.lemmas.Bool.{false≢true}
use Rattle.std.proofs.lemmas.Option.{slice_get_past}
use Rattle.mg_text.specs.Call.{Name}
use Rattle.ts_tree.specs.declared.parts.Method.{Method as KeptMethod}
use Rattle.ts_tree.specs.Typestate.{Target, One, ByAnswer, Method}
use Rattle.ts_tree.specs.Calls.{offered_in}
use Rattle.ts_tree.specs.Proper.{AreDistinct}
use Rattle.ts_tree.specs.View.{method_of}
use Rattle.ts_tree.proofs.Leading.{here}
use Rattle.ts_refine.specs.inner.Judging.{AreProper, AreLabelled, stands_at}
use Rattle.ts_refine.proofs.Relating.{same_name, other_name, offered_in-sound}

-- the first of a name from this place on
from-here : (ms : List KeptMethod) (i : ℕ) (name : Name) → stands_at ms i name ≡ true
    → option_map method_of (slice_get ms i) ≡ offered_in (map method_of (drop i ms)) name
from-here [] zero name h = absurd (false≢true h)
from-here [] (suc i) name h = absurd (false≢true h)
from-here (m ∷ ms) zero name h = rw h refl
from-here (m ∷ ms) (suc i) name h = from-here ms i name h

further : (ms : List KeptMethod) (i : ℕ) (name : Name) → i < length ms → stands_at ms i name ≡ false
    → offered_in (map method_of (drop i ms)) name ≡ offered_in (map method_of (drop (suc i) ms)) name
further [] i name lt h = absurd (omega (arith, lt))
further (m ∷ ms) zero name lt h = rw h refl
further (m ∷ ms) (suc i) name lt h = further ms i name (omega (arith, lt)) h

plus-one : (n : ℕ) → n + 1 ≡ suc n
plus-one n = omega arith

past : (ms : List KeptMethod) (i : ℕ) (name : Name) → length ms ≤ i → offered_in (map method_of (drop i ms)) name ≡ None
past [] zero name h = refl
past [] (suc i) name h = refl
past (m ∷ ms) zero name h = absurd (omega (arith, h))
past (m ∷ ms) (suc i) name h = past ms i name (omega (arith, h))

named_among : (ms : List KeptMethod) (i : ℕ) (name : Name) → stands_at ms i name ≡ true
    → Contains (map (λ (m : Method). m.name) (map method_of ms)) name
named_among [] zero name h = absurd (false≢true h)
named_among [] (suc i) name h = absurd (false≢true h)
named_among (m ∷ ms) zero name h = subst (Contains (m.name ∷ map (λ (m : Method). m.name) (map method_of ms))) (same_name m.name name h)
    (here m.name (map (λ (m : Method). m.name) (map method_of ms)))
named_among (m ∷ ms) (suc i) name h = let c = named_among ms i name h in (suc c.0, omega (arith, c.1), c.2)

-- where names are distinct, what stands anywhere with a name is the one of this name
stands-only : (ms : List KeptMethod) (i : ℕ) (name : Name) → AreDistinct (map (λ (m : Method). m.name) (map method_of ms))
    → stands_at ms i name ≡ true → option_map method_of (slice_get ms i) ≡ offered_in (map method_of ms) name
stands-only [] zero name apart h = absurd (false≢true h)
stands-only [] (suc i) name apart h = absurd (false≢true h)
stands-only (m ∷ ms) zero name apart h = rw h refl
stands-only (m ∷ ms) (suc i) name apart h =
    let ne : m.name ≢ name = λ e. apart.0 (subst (Contains (map (λ (m : Method). m.name) (map method_of ms))) (sym e)
    (named_among ms i name h)) in
    rw (other_name m.name name ne) (stands-only ms i name apart.1 h)

-- the labels of what is offered are distinct
labelled-in : (ms : List Method) (m : Method) → AreProper ms → Contains ms m → AreLabelled m.target
labelled-in ms m proper c = go m.target refl where
  go : (t : Target) → m.target ≡ t → AreLabelled t
  go (One to) is = tt
  go (ByAnswer bs) is = proper.labels m bs c is

pub labelled_by : {R : Type 0} (f : R → Method) (o : Option R) (ms : List Method) (name : Name) → AreProper ms
    → option_map f o ≡ offered_in ms name → IfSome o (λ m. AreLabelled (f m).target)
labelled_by f None ms name proper e = tt
labelled_by f (Some m) ms name proper e = labelled-in ms (f m) proper (offered_in-sound ms name (f m) (sym e)).0

-- with what the program knows
pub stood : (ms : List KeptMethod) (i : ℕ) (name : Name) (r : Bool) → AreProper (map method_of ms) → r ≡ stands_at ms i name → r ≡ true
    → option_map method_of (slice_get ms i) ≡ offered_in (map method_of ms) name
stood ms i name r proper is holds = stands-only ms i name proper.apart (sym is ∙ holds)

pub found-along : (ms : List KeptMethod) (i : ℕ) (name : Name) (r : Bool)
    → offered_in (map method_of (drop i ms)) name ≡ offered_in (map method_of ms) name → r ≡ stands_at ms i name → r ≡ true
    → option_map method_of (slice_get ms i) ≡ offered_in (map method_of ms) name
found-along ms i name r so_far is holds = from-here ms i name (sym is ∙ holds) ∙ so_far

pub passed-along : (ms : List KeptMethod) (i : ℕ) (name : Name) (r : Bool)
    → offered_in (map method_of (drop i ms)) name ≡ offered_in (map method_of ms) name → i < length ms → r ≡ stands_at ms i name
    → r ≡ false → offered_in (map method_of (drop (i + 1) ms)) name ≡ offered_in (map method_of ms) name
passed-along ms i name r so_far lt is fails = ap (λ k. offered_in (map method_of (drop k ms)) name) (plus-one i) ∙
    sym (further ms i name lt (sym is ∙ fails)) ∙ so_far

pub all-passed : (ms : List KeptMethod) (i : ℕ) (name : Name)
    → offered_in (map method_of (drop i ms)) name ≡ offered_in (map method_of ms) name → length ms ≤ i
    → option_map method_of (slice_get ms i) ≡ offered_in (map method_of ms) name
all-passed ms i name so_far h = ap (option_map method_of) (slice_get_past ms i h) ∙ sym (past ms i name h) ∙ so_far

pub ruleset along = (found-along, passed-along, all-passed)
