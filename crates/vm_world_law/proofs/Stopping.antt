-- Every run of roles stops.
use Rattle.std.proofs.Common.{◌≡◌, ◌⊎◌, inl, inr, ◌<◌, ◌≤◌, ◌+◌, ◌-◌, leb, ℕ, zero, suc, List, [], ◌∷◌, length, Option, Some, None}
use Rattle.std.proofs.Common.{slice_get, slice_set, Bool, true, false, Contains, refl, sym, ap, ◌∙◌, subst, arith}
use Rattle.std.specs.List.{list_any}
use Rattle.std.proofs.lemmas.Bool.Decides.{leb_tells}
use Rattle.vm_model.specs.Program.{Program}
use Rattle.vm_model.specs.Machine.{Machine, Stepped, Went, Waits, Stops}
use Rattle.vm_model.specs.Step.{step}
use Rattle.vm_world_law.specs.World.{State, Runs, Over, Role, World, turn, turns, turn_at, turn_in, stepped, IsStill, Rests}
use Rattle.vm_world_law.specs.Turns.{role_of_turn, first_turns, all_counts, counted, StopsAt, IsRun, stands_in, is_bound, StillAt}
use Rattle.vm_world_law.specs.Turns.{TurnsCount, RunsStop}
use Rattle.vm_world_law.proofs.Lists.{some_is, set_long}
use Rattle.vm_world_law.proofs.Turns.{one_turn_more, still_rounds_rest, rest_is_no_bound}

counted_set : (roles : List Role) (r : ℕ) (old new : Role) → slice_get roles r ≡ Some old → new.count ≡ suc old.count →
    all_counts (slice_set roles r new) ≡ suc (all_counts roles)
counted_set [] r old new at e = absurd (cc at)
counted_set (role ∷ roles) zero old new at e =
    let same : role.count ≡ old.count = ap (λ x. x.count) (some_is at) in
    omega (arith, same, e)
counted_set (role ∷ roles) (suc r) old new at e =
    let h = counted_set roles r old new at e in
    omega (arith, h)

pub turns_count : TurnsCount
turns_count p w r = go (slice_get w.roles r) refl
  where
    by_step : (role : Role) (m : Machine) (out : Stepped) → slice_get w.roles r ≡ Some role → role.state ≡ Runs m →
        step p r m w.messages ≡ out →
        (stepped w r role.count out ≡ w) × StillAt p w r ⊎ (counted (stepped w r role.count out) ≡ suc (counted w))
    by_step role m (Went n q e) at running is = inr (counted_set w.roles r role (record { state = Runs n; count = suc role.count }) at refl)
    by_step role m (Waits peer) at running is =
        inl (
          refl,
          λ other there. subst (λ x. IsStill p w r x.state) (some_is (sym at ∙ there))
              (subst (IsStill p w r) (sym running) (peer, is)),
        )
    by_step role m (Stops ending) at running is = inr (counted_set w.roles r role (record { state = Over ending; count = suc role.count })
        at refl)

    by_state : (role : Role) (state : State) → slice_get w.roles r ≡ Some role → role.state ≡ state →
        (turn_in p w r role.count state ≡ w) × StillAt p w r ⊎ (counted (turn_in p w r role.count state) ≡ suc (counted w))
    by_state role (Runs m) at is = by_step role m (step p r m w.messages) at is refl
    by_state role (Over ending) at is =
        inl (refl, λ other there. subst (λ x. IsStill p w r x.state) (some_is (sym at ∙ there)) (subst (IsStill p w r) (sym is) tt))

    go : (o : Option Role) → slice_get w.roles r ≡ o → (turn_at p w r o ≡ w) × StillAt p w r ⊎ (counted (turn_at p w r o) ≡ suc (counted w))
    go None at = inl (refl, λ role there. absurd (cc (at, there)))
    go (Some role) at = by_state role role.state at refl

-- the roles stay as many
pub turn_long : (p : Program) (w : World) (r : ℕ) → length (turn p w r).roles ≡ length w.roles
turn_long p w r = go (slice_get w.roles r)
  where
    by_step : (count : ℕ) (out : Stepped) → length (stepped w r count out).roles ≡ length w.roles
    by_step count (Went n q e) = set_long w.roles r (record { state = Runs n; count = suc count })
    by_step count (Waits peer) = refl
    by_step count (Stops ending) = set_long w.roles r (record { state = Over ending; count = suc count })

    by_state : (count : ℕ) (state : State) → length (turn_in p w r count state).roles ≡ length w.roles
    by_state count (Runs m) = by_step count (step p r m w.messages)
    by_state count (Over ending) = refl

    go : (o : Option Role) → length (turn_at p w r o).roles ≡ length w.roles
    go None = refl
    go (Some role) = by_state role.count role.state

module _ (p : Program) (first : World) (order : List ℕ) (limit : ℕ) where
  abbrev after : ℕ → World
  after k = turns p first (first_turns order k)

  -- a moment of the run at which it hasn't stopped before, and at which the last turns found their roles still
  record Reached (k idle : ℕ) : Type 0 where
    no_sooner : (j : ℕ) → j < k → StopsAt p limit (after j) → ⊥
    long : length (after k).roles ≡ length first.roles
    still : (j : ℕ) → k ≤ j + idle → j < k → StillAt p (after k) (role_of_turn order j)

  -- a further turn
  next_reached : (k idle : ℕ) → Reached k idle → (StopsAt p limit (after k) → ⊥) → (turn p (after k) (role_of_turn order k) ≡ after k) →
      StillAt p (after k) (role_of_turn order k) → Reached (suc k) (suc idle)
  next_reached k idle h not same now =
      let here : after (suc k) ≡ after k = one_turn_more p first order k ∙ same in
      record {
        no_sooner = λ j lt. sooner j lt;
        long = ap (λ w. length w.roles) here ∙ h.long;
        still = λ j le lt. subst (λ w. StillAt p w (role_of_turn order j)) (sym here) (was j le lt);
      }
    where
      sooner : (j : ℕ) → j < suc k → StopsAt p limit (after j) → ⊥
      sooner j lt = go (leb_tells k j)
        where
          go : (leb k j ≡ true) × (k ≤ j) ⊎ (leb k j ≡ false) × (j < k) → StopsAt p limit (after j) → ⊥
          go (inl le) = subst (λ i. StopsAt p limit (after i) → ⊥) (let e : k ≡ j = omega (arith, le.1, lt) in e) not
          go (inr less) = h.no_sooner j less.1

      was : (j : ℕ) → suc k ≤ j + suc idle → j < suc k → StillAt p (after k) (role_of_turn order j)
      was j le lt = go (leb_tells k j)
        where
          go : (leb k j ≡ true) × (k ≤ j) ⊎ (leb k j ≡ false) × (j < k) → StillAt p (after k) (role_of_turn order j)
          go (inl ge) = subst (λ i. StillAt p (after k) (role_of_turn order i)) (let e : k ≡ j = omega (arith, ge.1, lt) in e) now
          go (inr less) = h.still j (omega (arith, le)) less.1

  -- a turn that counts
  counting_reached : (k idle : ℕ) → Reached k idle → (StopsAt p limit (after k) → ⊥) → Reached (suc k) 0
  counting_reached k idle h not = record {
    no_sooner = λ j lt. sooner j lt;
    long = ap (λ w. length w.roles) (one_turn_more p first order k) ∙ turn_long p (after k) (role_of_turn order k) ∙ h.long;
    still = λ j le lt. absurd (omega (arith, le, lt));
  }
    where
      sooner : (j : ℕ) → j < suc k → StopsAt p limit (after j) → ⊥
      sooner j lt = go (leb_tells k j)
        where
          go : (leb k j ≡ true) × (k ≤ j) ⊎ (leb k j ≡ false) × (j < k) → StopsAt p limit (after j) → ⊥
          go (inl le) = subst (λ i. StopsAt p limit (after i) → ⊥) (let e : k ≡ j = omega (arith, le.1, lt) in e) not
          go (inr less) = h.no_sooner j less.1

  abbrev Found : Type 0
  Found = (w : World) × IsRun p first order limit w

  found : (k idle : ℕ) → Reached k idle → StopsAt p limit (after k) → Found
  found k idle h stops = (after k, record { taken = k; is = refl; stops = stops; no_sooner = h.no_sooner })

  module _ (named : (r : ℕ) → r < length first.roles → Contains order r) where
    -- as many turns in a row as the order is long found their roles still
    all_still : (k idle : ℕ) → Reached k idle → length order ≤ idle → idle ≤ k → Rests p (after k)
    all_still k idle h enough within =
        let from = k - length order in
        still_rounds_rest p (after k) order (λ r lt. named r (subst (λ n. r < n) h.long lt)) (k - length order)
        (λ j le lt. h.still j (omega (arith, le, enough, within)) (omega (arith, lt, enough, within)))

    -- the next turn, where the run hasn't stopped
    take_one : (f k idle : ℕ) → Reached k idle → (StopsAt p limit (after k) → ⊥) → counted (after k) + suc f ≡ limit →
        (Reached (suc k) (suc idle) → counted (after (suc k)) + suc f ≡ limit → Found) →
        (Reached (suc k) 0 → counted (after (suc k)) + f ≡ limit → Found) → Found
    take_one f k idle h not count again fewer = go (turns_count p (after k) (role_of_turn order k))
      where
        go : (turn p (after k) (role_of_turn order k) ≡ after k) × StillAt p (after k) (role_of_turn order k)
            ⊎ (counted (turn p (after k) (role_of_turn order k)) ≡ suc (counted (after k))) → Found
        go (inl still) =
            again (next_reached k idle h not still.0 still.1)
            (ap (λ w. counted w + suc f) (one_turn_more p first order k ∙ still.0) ∙ count)
        go (inr more) =
            let next : counted (after (suc k)) ≡ suc (counted (after k)) = ap counted (one_turn_more p first order k) ∙ more in
            fewer (counting_reached k idle h not) (omega (arith, next, count))

    not_stopped : (f k : ℕ) → counted (after k) + suc f ≡ limit → list_any is_bound (stands_in p (after k)) ≡ true →
        StopsAt p limit (after k) → ⊥
    not_stopped f k count is (inl rests) =
        absurd (let e : list_any is_bound (stands_in p (after k)) ≡ false = (rest_is_no_bound p (after k)).0 rests in cc)
    not_stopped f k count is (inr same) = absurd (omega (arith, count, same))

    -- with so many instructions to go, and so many turns that may still be still
    inner : (f : ℕ) → ((k : ℕ) → Reached k 0 → counted (after k) + f ≡ limit → Found) → (g k idle : ℕ) →
        Reached k idle → idle ≤ k → idle + g ≡ length order → counted (after k) + suc f ≡ limit → Found
    inner f fewer zero k idle h within left count = found k idle h (inl (all_still k idle h (omega (arith, left)) within))
    inner f fewer (suc g) k idle h within left count =
        go (list_any is_bound (stands_in p (after k))) refl
        (λ h' c. inner f fewer g (suc k) (suc idle) h' (omega (arith, within)) (omega (arith, left)) c)
      where
        go : (b : Bool) → list_any is_bound (stands_in p (after k)) ≡ b →
            (Reached (suc k) (suc idle) → counted (after (suc k)) + suc f ≡ limit → Found) → Found
        go false is again = found k idle h (inl ((rest_is_no_bound p (after k)).1 is))
        go true is again = take_one f k idle h (not_stopped f k count is) count again (λ h' c. fewer (suc k) h' c)

    outer : (f k : ℕ) → Reached k 0 → counted (after k) + f ≡ limit → Found
    outer zero k h count = found k 0 h (inr (omega (arith, count)))
    outer (suc f) k h count = inner f (λ k h c. outer f k h c) (length order) k 0 h (omega arith) (omega arith) count

    pub some_run : counted first ≤ limit → Found
    some_run enough =
        outer (limit - counted first) 0
        (record { no_sooner = λ j lt. absurd (omega (arith, lt)); long = refl; still = λ j le lt. absurd (omega (arith, lt)) })
        (omega (arith, enough))

pub runs_stop : RunsStop
runs_stop p first order named limit enough = some_run p first order limit named enough
