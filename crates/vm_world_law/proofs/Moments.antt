-- The moments of a run: what a loop over turns knows, which takes turns also while roles are found still.
use Rattle.std.proofs.Common.{◌≡◌, ◌⊎◌, inl, inr, ◌<◌, ◌≤◌, ◌+◌, ◌-◌, leb, ℕ, zero, suc, List, [], ◌∷◌, length, Option, Some, None}
use Rattle.std.proofs.Common.{slice_get, true, false, Contains, refl, sym, ap, ◌∙◌, subst, arith}
use Rattle.std.proofs.lemmas.Bool.Decides.{leb_tells}
use Rattle.vm_model.specs.Program.{Program}
use Rattle.vm_model.specs.Machine.{Machine, Stepped, Went, Waits, Stops}
use Rattle.vm_model.specs.Step.{step}
use Rattle.vm_world_law.specs.declared.role.Turned.{Turned}
use Rattle.vm_world_law.specs.declared.role.Turned.TheVariants as answers
use Rattle.vm_world_law.specs.World.{State, Runs, Over, Role, World, turn, turns, turn_at, turn_in, stepped, turned, turned_at, turned_in}
use Rattle.vm_world_law.specs.World.{turned_by, IsStill, Rests}
use Rattle.vm_world_law.specs.Turns.{is_over, over_at, over_in, Advances, role_of_turn, first_turns, all_counts, counted, StopsAt, IsRun}
use Rattle.vm_world_law.specs.Turns.{StillAt}
use Rattle.vm_world_law.proofs.Lists.{some_is}
use Rattle.vm_world_law.proofs.Turns.{one_turn_more, still_rounds_rest}
use Rattle.vm_world_law.proofs.Stopping.{turns_count}

module _ (p : Program) (w : World) (r : ℕ) where
  pub over_still : over_in w r ≡ true → Advances p w r w false
  over_still h = (λ role at. go role (ap over_at (sym at) ∙ h), refl)
    where
      by_state : (state : State) → is_over state ≡ true → IsStill p w r state
      by_state (Runs m) h = absurd (cc h)
      by_state (Over ending) h = tt

      go : (role : Role) → is_over role.state ≡ true → IsStill p w r role.state
      go role h = by_state role.state h

  -- a turn of a still role changes nothing
  pub still_turn : StillAt p w r → turn p w r ≡ w
  still_turn h = go (slice_get w.roles r) refl
    where
      by_state : (role : Role) (state : State) → role.state ≡ state → IsStill p w r state → turn_in p w r role.count state ≡ w
      by_state role (Runs m) is h = ap (stepped w r role.count) h.1
      by_state role (Over ending) is h = refl

      go : (o : Option Role) → slice_get w.roles r ≡ o → turn_at p w r o ≡ w
      go None at = refl
      go (Some role) at = by_state role role.state refl (h role at)

  -- a turn that waited
  pub waited : (peer : ℕ) → Some (answers.Waits peer) ≡ turned p w r → Advances p w r (turn p w r) false
  waited peer is = let h : StillAt p w r = (λ role at. go role at) in (h, still_turn h)
    where
      by_step : (m : Machine) (out : Stepped) → step p r m w.messages ≡ out → answers.Waits peer ≡ turned_by out → IsStill p w r (Runs m)
      by_step m (Went n q e) at is = absurd (cc is)
      by_step m (Waits from) at is = (from, at)
      by_step m (Stops ending) at is = absurd (cc is)

      by_state : (state : State) → answers.Waits peer ≡ turned_in p w r state → IsStill p w r state
      by_state (Runs m) is = by_step m (step p r m w.messages) refl is
      by_state (Over ending) is = tt

      go : (role : Role) → slice_get w.roles r ≡ Some role → IsStill p w r role.state
      go role at = by_state role.state (some_is (is ∙ ap (turned_at p w r) at))

  -- a turn that counted
  counted_so : (role : Role) → slice_get w.roles r ≡ Some role → (IsStill p w r role.state → ⊥) → Advances p w r (turn p w r) true
  counted_so role at moves = go (turns_count p w r)
    where
      go : (turn p w r ≡ w) × StillAt p w r ⊎ (counted (turn p w r) ≡ suc (counted w)) → Advances p w r (turn p w r) true
      go (inl still) = absurd (moves (still.1 role at))
      go (inr more) = (refl, more, λ rests. moves (rests r role at))

  there : {t : Turned} (o : Option Role) → slice_get w.roles r ≡ o → Some t ≡ turned_at p w r o →
      (role : Role) × (slice_get w.roles r ≡ Some role) × (t ≡ turned_in p w r role.state)
  there None at is = absurd (cc is)
  there (Some role) at is = (role, at, some_is is)

  pub went : Some answers.Went ≡ turned p w r → Advances p w r (turn p w r) true
  went is = let h = there (slice_get w.roles r) refl is in counted_so h.0 h.1 (λ still. by_state h.0.state h.2 still)
    where
      by_step : (m : Machine) (out : Stepped) → step p r m w.messages ≡ out → answers.Went ≡ turned_by out → IsStill p w r (Runs m) → ⊥
      by_step m (Went n q e) at is still = absurd (let e : ◌≡◌ {A = Stepped} _ _ = sym at ∙ still.1 in cc)
      by_step m (Waits from) at is still = absurd (cc is)
      by_step m (Stops ending) at is still = absurd (cc is)

      by_state : (state : State) → answers.Went ≡ turned_in p w r state → IsStill p w r state → ⊥
      by_state (Runs m) is still = by_step m (step p r m w.messages) refl is still
      by_state (Over ending) is still = absurd (cc is)

  pub ended_now : (ending : _) → over_in w r ≡ false → Some (answers.Ended ending) ≡ turned p w r → Advances p w r (turn p w r) true
  ended_now ending running is =
      let h = there (slice_get w.roles r) refl is in
      counted_so h.0 h.1 (λ still. by_state h.0.state (ap over_at (sym h.1) ∙ running) h.2 still)
    where
      by_step : (m : Machine) (out : Stepped) → step p r m w.messages ≡ out → answers.Ended ending ≡ turned_by out → IsStill p w r (Runs m)
          → ⊥
      by_step m (Went n q e) at is still = absurd (cc is)
      by_step m (Waits from) at is still = absurd (cc is)
      by_step m (Stops x) at is still = absurd (let e : ◌≡◌ {A = Stepped} _ _ = sym at ∙ still.1 in cc)

      by_state : (state : State) → is_over state ≡ false → answers.Ended ending ≡ turned_in p w r state → IsStill p w r state → ⊥
      by_state (Runs m) running is still = by_step m (step p r m w.messages) refl is still
      by_state (Over x) running is still = absurd (cc running)

-- no role counted more than all
pub count_within : (roles : List Role) (r : ℕ) (role : Role) → slice_get roles r ≡ Some role → role.count ≤ all_counts roles
count_within [] r role at = absurd (cc at)
count_within (x ∷ roles) zero role at = let e : x.count ≡ role.count = ap (λ y. y.count) (some_is at) in omega (arith, e)
count_within (x ∷ roles) (suc r) role at = let h = count_within roles r role at in omega (arith, h)

module _ (p : Program) (first : World) (order : List ℕ) (limit : ℕ) where
  abbrev pub after : ℕ → World
  after k = turns p first (first_turns order k)

  -- A moment of a run: the world is that of a moment before which the run hasn't stopped, and as many turns as `idle` found their roles
  -- still since.
  pub record Moment (k idle : ℕ) (w : World) : Type 0 where
    pub is : w ≡ after k
    pub no_sooner : (j : ℕ) → j < k → StopsAt p limit (after j) → ⊥
    pub still : (j : ℕ) → k ≤ j → j < k + idle → StillAt p w (role_of_turn order j)

  pub first_moment : Moment 0 0 first
  first_moment = record { is = refl; no_sooner = λ j lt. absurd (omega (arith, lt)); still = λ j le lt. absurd (omega (arith, lt)) }

  module _ (k idle : ℕ) (w : World) (m : Moment k idle w) where
    -- since then the world is the same
    same_since : (i : ℕ) → i ≤ idle → after (k + i) ≡ w
    same_since zero le = ap after (let e : k + 0 ≡ k = omega arith in e) ∙ sym m.is
    same_since (suc i) le =
        ap after (let e : k + suc i ≡ suc (k + i) = omega arith in e)
        ∙ one_turn_more p first order (k + i)
        ∙ ap (λ v. turn p v (role_of_turn order (k + i))) (same_since i (omega (arith, le)))
        ∙ still_turn p w (role_of_turn order (k + i)) (m.still (k + i) (omega arith) (omega (arith, le)))

    -- a further turn that found its role still
    pub idle_moment : StillAt p w (role_of_turn order (k + idle)) → Moment k (suc idle) w
    idle_moment h = record { is = m.is; no_sooner = m.no_sooner; still = λ j le lt. go j le lt (leb_tells (k + idle) j) }
      where
        go : (j : ℕ) → k ≤ j → j < k + suc idle → (leb (k + idle) j ≡ true) × (k + idle ≤ j) ⊎ (leb (k + idle) j ≡ false) × (j < k + idle) →
            StillAt p w (role_of_turn order j)
        go j le lt (inl ge) = subst (λ i. StillAt p w (role_of_turn order i)) (let e : k + idle ≡ j = omega (arith, ge.1, lt) in e) h
        go j le lt (inr less) = m.still j le less.1

    -- one that counted, of a world at which the run doesn't stop
    pub count_moment : (StopsAt p limit w → ⊥) → Moment (suc (k + idle)) 0 (turn p w (role_of_turn order (k + idle)))
    count_moment not = record {
      is = sym (one_turn_more p first order (k + idle)
          ∙ ap (λ v. turn p v (role_of_turn order (k + idle))) (same_since idle (omega arith)));
      no_sooner = λ j lt. go j lt (leb_tells k j);
      still = λ j le lt. absurd (omega (arith, le, lt));
    }
      where
        go : (j : ℕ) → j < suc (k + idle) → (leb k j ≡ true) × (k ≤ j) ⊎ (leb k j ≡ false) × (j < k) → StopsAt p limit (after j) → ⊥
        go j lt (inl ge) stops =
            not (subst (StopsAt p limit) (ap after (let e : j ≡ k + (j - k) = omega (arith, ge.1) in e) ∙ same_since (j - k)
            (omega (arith, ge.1, lt))) stops)
        go j lt (inr less) stops = m.no_sooner j less.1 stops

    -- as many still turns as the order is long
    pub rest_moment : ((r : ℕ) → r < length w.roles → Contains order r) → length order ≤ idle → Rests p w
    rest_moment named enough = still_rounds_rest p w order named k (λ j le lt. m.still j le (omega (arith, lt, enough)))

    pub run_here : StopsAt p limit w → IsRun p first order limit w
    run_here stops = record { taken = k; is = m.is; stops = stops; no_sooner = m.no_sooner }
