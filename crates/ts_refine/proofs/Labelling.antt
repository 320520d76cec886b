-- Where a branch of a label stands.
use Rattle.std.proofs.Common.{◌≡◌, ◌≢◌, ℕ, zero, suc, ◌+◌, ◌<◌, ◌≤◌, Bool, true, false, List, [], ◌∷◌, length, drop, map, None, is_some}
use Rattle.std.proofs.Common.{option_map, slice_get, if◌then◌else◌, refl, sym, ap, subst, ◌∙◌, arith}
use Rattle.std.specs.Prelude.{Contains}
use Rattle.std.specs.Str.{bytes_eq}
use Rattle.std.proofs.lemmas.Bool.{false≢true}
use Rattle.std.proofs.lemmas.Option.{slice_get_past}
use Rattle.mg_text.specs.Call.{Name}
use Rattle.ts_tree.specs.declared.parts.Branch.{Branch}
use Rattle.ts_tree.specs.Calls.{by_label}
use Rattle.ts_tree.specs.Proper.{AreDistinct}
use Rattle.ts_tree.proofs.Leading.{here}
use Rattle.ts_refine.specs.inner.Judging.{has_label, label_stands_at, IsPlaceOf}
use Rattle.ts_refine.proofs.Relating.{same_name, other_name}

or-true : (t : Bool) → (if t then true else true) ≡ true
or-true true = refl
or-true false = refl

-- a branch stands there, and so there is one of its label
stands-some : (bs : List Branch) (i : ℕ) (label : Name) → label_stands_at bs i label ≡ true → is_some (slice_get bs i) ≡ true
stands-some [] zero label h = absurd (false≢true h)
stands-some [] (suc i) label h = absurd (false≢true h)
stands-some (b ∷ bs) zero label h = refl
stands-some (b ∷ bs) (suc i) label h = stands-some bs i label h

stands-has : (bs : List Branch) (i : ℕ) (label : Name) → label_stands_at bs i label ≡ true → has_label bs label ≡ true
stands-has [] zero label h = absurd (false≢true h)
stands-has [] (suc i) label h = absurd (false≢true h)
stands-has (b ∷ bs) zero label h = rw h refl
stands-has (b ∷ bs) (suc i) label h =
    ap (λ (t : Bool). if bytes_eq b.label label then true else t) (stands-has bs i label h) ∙ or-true (bytes_eq b.label label)

labelled_among : (bs : List Branch) (i : ℕ) (label : Name) → label_stands_at bs i label ≡ true
    → Contains (map (λ (b : Branch). b.label) bs) label
labelled_among [] zero label h = absurd (false≢true h)
labelled_among [] (suc i) label h = absurd (false≢true h)
labelled_among (b ∷ bs) zero label h =
    subst (Contains (b.label ∷ map (λ (b : Branch). b.label) bs)) (same_name b.label label h)
    (here b.label (map (λ (b : Branch). b.label) bs))
labelled_among (b ∷ bs) (suc i) label h = let c = labelled_among bs i label h in (suc c.0, omega (arith, c.1), c.2)

-- where labels are distinct, what stands anywhere with a label is the one of this label
stands-only : (bs : List Branch) (i : ℕ) (label : Name) → AreDistinct (map (λ (b : Branch). b.label) bs)
    → label_stands_at bs i label ≡ true → option_map (λ (b : Branch). b.to) (slice_get bs i) ≡ by_label bs label
stands-only [] zero label apart h = absurd (false≢true h)
stands-only [] (suc i) label apart h = absurd (false≢true h)
stands-only (b ∷ bs) zero label apart h = rw h refl
stands-only (b ∷ bs) (suc i) label apart h =
    let ne : b.label ≢ label = λ e. apart.0 (subst (Contains (map (λ (b : Branch). b.label) bs)) (sym e) (labelled_among bs i label h)) in
    rw (other_name b.label label ne) (stands-only bs i label apart.1 h)

-- ---- along the list
further-has : (bs : List Branch) (i : ℕ) (label : Name) → i < length bs → label_stands_at bs i label ≡ false
    → has_label (drop i bs) label ≡ has_label (drop (suc i) bs) label
further-has [] i label lt h = absurd (omega (arith, lt))
further-has (b ∷ bs) zero label lt h = rw h refl
further-has (b ∷ bs) (suc i) label lt h = further-has bs i label (omega (arith, lt)) h

past-has : (bs : List Branch) (i : ℕ) (label : Name) → length bs ≤ i → has_label (drop i bs) label ≡ false
past-has [] zero label h = refl
past-has [] (suc i) label h = refl
past-has (b ∷ bs) zero label h = absurd (omega (arith, h))
past-has (b ∷ bs) (suc i) label h = past-has bs i label (omega (arith, h))

from-here : (bs : List Branch) (i : ℕ) (label : Name) → label_stands_at bs i label ≡ true
    → option_map (λ (b : Branch). b.to) (slice_get bs i) ≡ by_label (drop i bs) label
from-here [] zero label h = absurd (false≢true h)
from-here [] (suc i) label h = absurd (false≢true h)
from-here (b ∷ bs) zero label h = rw h refl
from-here (b ∷ bs) (suc i) label h = from-here bs i label h

further-to : (bs : List Branch) (i : ℕ) (label : Name) → i < length bs → label_stands_at bs i label ≡ false
    → by_label (drop i bs) label ≡ by_label (drop (suc i) bs) label
further-to [] i label lt h = absurd (omega (arith, lt))
further-to (b ∷ bs) zero label lt h = rw h refl
further-to (b ∷ bs) (suc i) label lt h = further-to bs i label (omega (arith, lt)) h

past-to : (bs : List Branch) (i : ℕ) (label : Name) → length bs ≤ i → by_label (drop i bs) label ≡ None
past-to [] zero label h = refl
past-to [] (suc i) label h = refl
past-to (b ∷ bs) zero label h = absurd (omega (arith, h))
past-to (b ∷ bs) (suc i) label h = past-to bs i label (omega (arith, h))

plus-one : (n : ℕ) → n + 1 ≡ suc n
plus-one n = omega arith

-- ---- with what the program knows
pub labelled : (bs : List Branch) (i : ℕ) (label : Name) (r : Bool) → r ≡ label_stands_at bs i label → r ≡ true → IsPlaceOf bs label i
labelled bs i label r is holds =
    let h : label_stands_at bs i label ≡ true = sym is ∙ holds in
    record { has = stands-some bs i label h ∙ sym (stands-has bs i label h); to = λ apart. stands-only bs i label apart h }

pub found-along : (bs : List Branch) (i : ℕ) (label : Name) (r : Bool) → by_label (drop i bs) label ≡ by_label bs label
    → r ≡ label_stands_at bs i label → r ≡ true → IsPlaceOf bs label i
found-along bs i label r so_far is holds =
    let h : label_stands_at bs i label ≡ true = sym is ∙ holds in
    record { has = stands-some bs i label h ∙ sym (stands-has bs i label h); to = λ apart. from-here bs i label h ∙ so_far }

pub has-along : (bs : List Branch) (i : ℕ) (label : Name) (r : Bool) → has_label (drop i bs) label ≡ has_label bs label → i < length bs
    → r ≡ label_stands_at bs i label → r ≡ false → has_label (drop (i + 1) bs) label ≡ has_label bs label
has-along bs i label r so_far lt is fails =
    ap (λ k. has_label (drop k bs) label) (plus-one i) ∙ sym (further-has bs i label lt (sym is ∙ fails)) ∙ so_far

pub to-along : (bs : List Branch) (i : ℕ) (label : Name) (r : Bool) → by_label (drop i bs) label ≡ by_label bs label → i < length bs
    → r ≡ label_stands_at bs i label → r ≡ false → by_label (drop (i + 1) bs) label ≡ by_label bs label
to-along bs i label r so_far lt is fails =
    ap (λ k. by_label (drop k bs) label) (plus-one i) ∙ sym (further-to bs i label lt (sym is ∙ fails)) ∙ so_far

pub all-passed : (bs : List Branch) (i : ℕ) (label : Name) → has_label (drop i bs) label ≡ has_label bs label
    → by_label (drop i bs) label ≡ by_label bs label → length bs ≤ i → IsPlaceOf bs label i
all-passed bs i label has to h = record {
  has = ap is_some (slice_get_past bs i h) ∙ sym (past-has bs i label h) ∙ has;
  to = λ apart. ap (option_map (λ (b : Branch). b.to)) (slice_get_past bs i h) ∙ sym (past-to bs i label h) ∙ to;
}

pub ruleset along = (found-along, has-along, to-along, all-passed)
