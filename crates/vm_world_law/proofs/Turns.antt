-- Runs of several roles.
use Rattle.std.proofs.Common.{◌≡◌, ◌⊎◌, inl, inr, ◌<◌, ◌≤◌, ◌+◌, ◌*◌, ◌/◌, ◌%◌, leb, ℕ, zero, suc, List, [], ◌∷◌, length, get_or, Some}
use Rattle.std.proofs.Common.{slice_get, Bool, true, false, ◌||◌, refl, sym, ap, ◌∙◌, subst, arith}
use Rattle.std.specs.List.{list_any}
use Rattle.std.proofs.lemmas.Bool.Decides.{leb_tells}
use Rattle.std.proofs.lemmas.Nat.{mod-mul-add, mod_below}
use Rattle.std.proofs.Math.Nat.{div-add-mod'}
use Rattle.vm_model.specs.Program.{Program}
use Rattle.vm_model.specs.Machine.{Stepped, Went, Waits, Stops}
use Rattle.vm_model.specs.Step.{step}
use Rattle.vm_world_law.specs.World.{State, Runs, Over, Role, World, turn, turns, waits_by, IsStill}
use Rattle.vm_world_law.specs.Turns.{role_of_turn, first_turns, StopsAt, waiting_for, stand_of, stands_from, is_bound, OneRun}
use Rattle.vm_world_law.specs.Turns.{StillRoundsRest, RestIsNoBound}
use Rattle.vm_world_law.proofs.Swap.{turns-append}
use Rattle.vm_world_law.proofs.Lists.{some_is, got_within}

-- one turn more
pub one_turn_more : (p : Program) (first : World) (order : List ℕ) (k : ℕ) →
    turns p first (first_turns order (suc k)) ≡ turn p (turns p first (first_turns order k)) (role_of_turn order k)
one_turn_more p first order k = turns-append p first (first_turns order k) (role_of_turn order k ∷ [])

pub one_run : OneRun
one_run p first order limit v w a b = go (leb_tells (suc a.taken) b.taken) (leb_tells (suc b.taken) a.taken)
  where
    go : (leb (suc a.taken) b.taken ≡ true) × (suc a.taken ≤ b.taken) ⊎ (leb (suc a.taken) b.taken ≡ false) × (b.taken < suc a.taken) →
        (leb (suc b.taken) a.taken ≡ true) × (suc b.taken ≤ a.taken) ⊎ (leb (suc b.taken) a.taken ≡ false) × (a.taken < suc b.taken) → v ≡ w
    go (inl less) other = absurd (b.no_sooner a.taken less.1 (subst (StopsAt p limit) a.is a.stops))
    go (inr n) (inl less) = absurd (a.no_sooner b.taken less.1 (subst (StopsAt p limit) b.is b.stops))
    go (inr n) (inr m) =
        let same : a.taken ≡ b.taken = omega (arith, n.1, m.1) in
        a.is ∙ ap (λ k. turns p first (first_turns order k)) same ∙ sym b.is

-- each place comes up among as many numbers in a row
comes_up : (n from i : ℕ) → i < n → (k : ℕ) × (from ≤ k) × (k < from + n) × (k % n ≡ i)
comes_up n from i lt = go (leb_tells (from % n) i)
  where
    whole : from / n * n + from % n ≡ from
    whole = div-add-mod' from n

    below : from % n < n
    below = mod_below from n (omega (arith, lt))

    times : (from / n + 1) * n ≡ from / n * n + n
    times = grind arith

    go : (leb (from % n) i ≡ true) × (from % n ≤ i) ⊎ (leb (from % n) i ≡ false) × (i < from % n) →
        (k : ℕ) × (from ≤ k) × (k < from + n) × (k % n ≡ i)
    go (inl h) = (from / n * n + i, omega (arith, whole, h.1), omega (arith, whole, lt), mod-mul-add (from / n) n i lt)
    go (inr h) =
        ((from / n + 1) * n + i, omega (arith, whole, times, below), omega (arith, whole, times, h.1), mod-mul-add (from / n + 1) n i lt)

-- the item at a place, whatever stands for none
same_default : (xs : List ℕ) (i a b : ℕ) → i < length xs → get_or xs i a ≡ get_or xs i b
same_default [] i a b h = absurd (omega (arith, h))
same_default (x ∷ xs) zero a b h = refl
same_default (x ∷ xs) (suc i) a b h = same_default xs i a b (omega (arith, h))

pub still_rounds_rest : StillRoundsRest
still_rounds_rest p w order named from still r role at =
    let there = named r (got_within w.roles r role at) in
    let up = comes_up (length order) from there.0 there.1 in
    let is : role_of_turn order up.0 ≡ r =
    ap (λ i. get_or order i 0) up.3 ∙ same_default order there.0 0 r there.1 ∙ there.2 in
    subst (λ x. IsStill p w x role.state) is
    (still up.0 up.1 up.2 role (ap (λ x. slice_get w.roles x) is ∙ at))

-- How roles stand.

both_false : (a b : Bool) → (a || b) ≡ false → (a ≡ false) × (b ≡ false)
both_false true b h = absurd (cc h)
both_false false b h = (refl, h)

neither : (a b : Bool) → a ≡ false → b ≡ false → (a || b) ≡ false
neither a b e f = ap (λ c. c || b) e ∙ f

module _ (p : Program) (w : World) where
  not_bound : (r : ℕ) (state : State) → IsStill p w r state → is_bound (stand_of p w r state) ≡ false
  not_bound r (Runs m) h = ap (λ s. is_bound (waiting_for w (waits_by s))) h.1
  not_bound r (Over ending) h = refl

  still_where : (r : ℕ) (state : State) → is_bound (stand_of p w r state) ≡ false → IsStill p w r state
  still_where r (Runs m) h = go (step p r m w.messages) refl h
    where
      go : (out : Stepped) → step p r m w.messages ≡ out → is_bound (waiting_for w (waits_by out)) ≡ false →
          (peer : ℕ) × (step p r m w.messages ≡ Waits peer)
      go (Went n q e) is h = absurd (cc h)
      go (Waits peer) is h = (peer, is)
      go (Stops ending) is h = absurd (cc h)
  still_where r (Over ending) h = tt

  none_bound : (r : ℕ) (roles : List Role) → ((i : ℕ) (role : Role) → slice_get roles i ≡ Some role → IsStill p w (r + i) role.state) →
      list_any is_bound (stands_from p w r roles) ≡ false
  none_bound r [] h = refl
  none_bound r (role ∷ roles) h =
      neither (is_bound (stand_of p w r role.state)) (list_any is_bound (stands_from p w (suc r) roles))
      (not_bound r role.state (subst (λ k. IsStill p w k role.state) (omega arith) (h 0 role refl)))
      (none_bound (suc r) roles (λ i other at. subst (λ k. IsStill p w k other.state) (omega arith) (h (suc i) other at)))

  all_where : (r : ℕ) (roles : List Role) → list_any is_bound (stands_from p w r roles) ≡ false →
      (i : ℕ) (role : Role) → slice_get roles i ≡ Some role → IsStill p w (r + i) role.state
  all_where r [] h i role at = absurd (cc at)
  all_where r (role ∷ roles) h zero other at =
      let both = both_false (is_bound (stand_of p w r role.state)) (list_any is_bound (stands_from p w (suc r) roles)) h in
      subst (λ k. IsStill p w k other.state) (let e : r ≡ r + 0 = omega arith in e)
      (subst (λ x. IsStill p w r x.state) (some_is at) (still_where r role.state both.0))
  all_where r (role ∷ roles) h (suc i) other at =
      let both = both_false (is_bound (stand_of p w r role.state)) (list_any is_bound (stands_from p w (suc r) roles)) h in
      subst (λ k. IsStill p w k other.state) (let e : suc r + i ≡ r + suc i = omega arith in e) (all_where (suc r) roles both.1 i other at)

pub rest_is_no_bound : RestIsNoBound
rest_is_no_bound p w = (
  (λ h. none_bound p w 0 w.roles (λ i role at. subst (λ k. IsStill p w k role.state) (omega arith) (h i role at))),
  (λ h r role at. subst (λ k. IsStill p w k role.state) (omega arith) (all_where p w 0 w.roles h r role at)),
)
