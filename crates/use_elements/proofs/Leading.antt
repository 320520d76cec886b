-- What the rules say of an element, by tests on its number.
use Rattle.std.proofs.Common.{◌≡◌, ◌≢◌, ℕ, zero, suc, ◌-◌, ◌<◌, ◌≤◌, [], ◌∷◌, Some, None, if◌then◌else◌, refl, ap, arith}
use Rattle.ts_tree.specs.Typestate.{Typestate}
use Rattle.ts_tree.specs.Calls.{drops}
use Rattle.use_rules.specs.declared.demand.DemandKind.{DemandKind}
use Rattle.use_rules.specs.declared.element.Element.TheVariants as elements
use Rattle.use_rules.specs.Elements.{as_value, left_behind, not_null, only_null, if_moved, if_open, element_at}

pub as_value_other : (e : ℕ) → e ≢ 1 → as_value e ≡ e ∷ []
as_value_other zero n = refl
as_value_other (suc zero) n = absurd (n refl)
as_value_other (suc (suc e)) n = refl

pub left_behind_other : (e : ℕ) → e ≢ 0 → e ≢ 1 → left_behind e ≡ 1 ∷ []
left_behind_other zero n m = absurd (n refl)
left_behind_other (suc zero) n m = absurd (m refl)
left_behind_other (suc (suc e)) n m = refl

pub not_null_other : (e : ℕ) → e ≢ 0 → not_null e ≡ e ∷ []
not_null_other zero n = absurd (n refl)
not_null_other (suc e) n = refl

pub only_null_other : (e : ℕ) → e ≢ 0 → only_null e ≡ []
only_null_other zero n = absurd (n refl)
only_null_other (suc e) n = refl

pub if_moved_other : (e : ℕ) → e ≢ 1 → if_moved e ≡ None
if_moved_other zero n = refl
if_moved_other (suc zero) n = absurd (n refl)
if_moved_other (suc (suc e)) n = refl

pub if_open_low : (k : DemandKind) (t : Typestate) (e : ℕ) → e < 3 → if_open k t e ≡ None
if_open_low k t zero h = refl
if_open_low k t (suc zero) h = refl
if_open_low k t (suc (suc zero)) h = refl
if_open_low k t (suc (suc (suc e))) h = absurd (omega arith)

pub if_open_high : (k : DemandKind) (t : Typestate) (e : ℕ) → 3 ≤ e → if_open k t e ≡ (if drops t (e - 3) then None else Some k)
if_open_high k t zero h = absurd (omega arith)
if_open_high k t (suc zero) h = absurd (omega arith)
if_open_high k t (suc (suc zero)) h = absurd (omega arith)
if_open_high k t (suc (suc (suc q))) h = let s : q ≡ suc (suc (suc q)) - 3 = omega arith in ap (λ n. if drops t n then None else Some k) s

pub element_high : (e : ℕ) → e ≢ 0 → e ≢ 1 → e ≢ 2 → elements.State (e - 3) ≡ element_at e
element_high zero a b c = absurd (a refl)
element_high (suc zero) a b c = absurd (b refl)
element_high (suc (suc zero)) a b c = absurd (c refl)
element_high (suc (suc (suc q))) a b c = ap elements.State (omega arith)

pub ruleset leading = (
  as_value_other,
  left_behind_other,
  not_null_other,
  only_null_other,
  if_moved_other,
  if_open_low,
  if_open_high,
  element_high,
)
