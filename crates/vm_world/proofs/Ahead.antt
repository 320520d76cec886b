-- Roles that took steps alone before their turns came: the world differs from that of the turns in these roles alone,
-- and the turn of another role does the same in both.
use Rattle.std.proofs.Common.{◌≡◌, ◌≢◌, ◌⊎◌, inl, inr, ◌<◌, ◌+◌, ◌++◌, ℕ, zero, suc, List, length, map, set, get_or, slice_get, slice_set}
use Rattle.std.proofs.Common.{Option, Some, None, true, false, refl, sym, ap, ◌∙◌, subst, arith}
use Rattle.std.specs.Prelude.{◌==◌}
use Rattle.std.proofs.lemmas.Bool.Decides.{eqb_tells}
use Rattle.std.proofs.lemmas.List.{get_or-set_same, get_or-set_other}
use Rattle.std.proofs.lemmas.Option.{slice_get-get_or}
use Rattle.vm_model.specs.Program.{Program}
use Rattle.vm_model.specs.Messages.{Messages}
use Rattle.vm_model.specs.Machine.{Machine, Stepped, Went, Waits, Stops, noted}
use Rattle.vm_model.specs.Step.{step}
use Rattle.vm_step.specs.Alone.{StepAlone, AllAlone}
use Rattle.vm_world_law.specs.World.{State, Runs, Over, Role, World, of_role, turn, turn_at, turn_in, stepped, IsStill, Rests}
use Rattle.vm_world_law.specs.Turns.{Advances, StillAt, counted}
use Rattle.vm_world_law.proofs.Lists.{some_is, set_here, set_there, set_long, get_within, got_within, same_at_each}
use Rattle.vm_world_law.proofs.Moments.{still_turn}
use Rattle.vm_world_law.proofs.Stopping.{turns_count}
use Rattle.vm_world.specs.Alone.{StateAlone, RoleAlone, Counts, with_role}
use Rattle.vm_world.proofs.Turning.{set_same}
use Rattle.vm_world.proofs.Alone.{AllCount, running, by_roles, none_alone}

-- The first of several steps.

first_step : (p : Program) (m : Machine) (k : ℕ) (m' : Machine) → AllAlone p m (suc k) m' →
    (n : Machine) × (StepAlone p m n × AllAlone p n k m')
first_step p m zero m' (n, (same, one)) = (m', (subst (λ (x : Machine). StepAlone p x m') same one, refl))
first_step p m (suc k) m' (n, (all, one)) = let h = first_step p m k n all in (h.0, (h.1.0, (n, (h.1.1, one))))

abbrev FirstOf : Program → (before : Role) → (k : ℕ) → (after : Role) → Type 0
FirstOf p before k after = (mid : Role) × (RoleAlone p before 1 mid × RoleAlone p mid k after)

first_of : (p : Program) (before after : Role) (k : ℕ) → RoleAlone p before (suc k) after → FirstOf p before k after
first_of p before after k h = by_states before.state after.state before.count after.count h.state h.count
  where
    by_states : (s t : State) (c d : ℕ) → StateAlone p (suc k) s t → d ≡ c + suc k →
        FirstOf p (record { state = s; count = c }) k (record { state = t; count = d })
    by_states (Runs m) (Runs n) c d all more =
        let f = first_step p m k n all in (
          running f.0 (suc c),
          (
            record { state = (m, (refl, f.1.0)); count = (let e : suc c ≡ c + 1 = omega arith in e) },
            record { state = f.1.1; count = (let e : d ≡ suc c + k = omega (arith, more) in e) },
          ),
        )
    by_states (Runs m) (Over ending) c d all more = absurd all
    by_states (Over ending) t c d all more = absurd (omega (arith, all.0))

-- who goes on alone isn't still
not_still : (p : Program) (w : World) (r : ℕ) (before after : Role) (k : ℕ) → RoleAlone p before (suc k) after → IsStill p w r before.state
    → ⊥
not_still p w r before after k h still = by_states before.state after.state h.state still
  where
    by_states : (s t : State) → StateAlone p (suc k) s t → IsStill p w r s → ⊥
    by_states (Runs m) (Runs n) all still =
        let f = first_step p m k n all in
        absurd (let e : Went f.0 w.messages None ≡ Waits still.0 = sym (f.1.0 r w.messages) ∙ still.1 in cc)
    by_states (Runs m) (Over ending) all still = absurd all
    by_states (Over ending) t all still = absurd (omega (arith, all.0))

-- Roles that are ahead.

-- each role is so many steps of its own ahead
pub record RolesAhead (p : Program) (roles : List Role) (ahead : List ℕ) (now : List Role) : Type 0 where
  pub many : length now ≡ length roles
  pub as_many : length ahead ≡ length roles
  pub each : (r : ℕ) (before after : Role) → slice_get roles r ≡ Some before → slice_get now r ≡ Some after →
      RoleAlone p before (get_or ahead r 0) after

-- a world in which roles are ahead of the turns that were counted
pub record WorldAhead (p : Program) (w : World) (ahead : List ℕ) (now : World) : Type 0 where
  pub roles : RolesAhead p w.roles ahead now.roles
  pub messages : now.messages ≡ w.messages
  pub events : now.events ≡ w.events

no_step : (p : Program) (role : Role) → RoleAlone p role 0 role
no_step p role = by_state role.state
  where
    by_state : (s : State) → RoleAlone p (record { state = s; count = role.count }) 0 (record { state = s; count = role.count })
    by_state (Runs m) = record { state = refl; count = (let e : role.count ≡ role.count + 0 = omega arith in e) }
    by_state (Over ending) = record { state = (refl, refl); count = (let e : role.count ≡ role.count + 0 = omega arith in e) }

module _ (p : Program) where
  -- at first none is
  pub none_ahead : (w : World) (ahead : List ℕ) → length ahead ≡ length w.roles → ((r : ℕ) → get_or ahead r 0 ≡ 0) → WorldAhead p w ahead w
  none_ahead w ahead long none = record {
    roles = record {
      many = refl;
      as_many = long;
      each = λ r before after at bt. subst (λ (x : Role). RoleAlone p before (get_or ahead r 0) x) (some_is (sym at ∙ bt))
          (subst (λ k. RoleAlone p before k before) (sym (none r)) (no_step p before));
    };
    messages = refl;
    events = refl;
  }

  -- the world is that of the turns where no role that is there is ahead
  pub caught_up : (w now : World) (ahead : List ℕ) → WorldAhead p w ahead now →
      ((r k : ℕ) (before after : Role) → slice_get w.roles r ≡ Some before → get_or ahead r 0 ≡ suc k → RoleAlone p before (suc k) after →
      ⊥) → now ≡ w
  caught_up w now ahead h none =
      ap (λ l. record { roles = l; messages = now.messages; events = now.events }) (same_at_each now.roles w.roles each)
      ∙ ap (λ q. record { roles = w.roles; messages = q; events = now.events }) h.messages
      ∙ ap (λ es. record { roles = w.roles; messages = w.messages; events = es }) h.events
    where
      same : (r k : ℕ) (before after : Role) → slice_get w.roles r ≡ Some before → get_or ahead r 0 ≡ k → RoleAlone p before k after →
          after ≡ before
      same r zero before after at is a = none_alone p before after a
      same r (suc k) before after at is a = absurd (none r k before after at is a)

      each : (r : ℕ) → slice_get now.roles r ≡ slice_get w.roles r
      each r = go (slice_get w.roles r) (slice_get now.roles r) refl refl
        where
          go : (o u : Option Role) → slice_get w.roles r ≡ o → slice_get now.roles r ≡ u → u ≡ o
          go None None at bt = refl
          go (Some before) None at bt =
              let there = get_within now.roles r (subst (λ n. r < n) (sym h.roles.many) (got_within w.roles r before at)) in
              absurd (let e : Some there.0 ≡ None = sym there.1 ∙ bt in cc)
          go None (Some after) at bt =
              let there = get_within w.roles r (subst (λ n. r < n) h.roles.many (got_within now.roles r after bt)) in
              absurd (let e : Some there.0 ≡ None = sym there.1 ∙ at in cc)
          go (Some before) (Some after) at bt =
              ap (λ x. Some x) (same r (get_or ahead r 0) before after at refl (h.roles.each r before after at bt))

  -- a role is put at a place of both
  put : (roles now : List Role) (ahead : List ℕ) → RolesAhead p roles ahead now → (r k : ℕ) (before after : Role) → r < length roles →
      RoleAlone p before k after → RolesAhead p (slice_set roles r before) (set ahead r k) (slice_set now r after)
  put roles now ahead h r k before after lt alone = record {
    many = set_long now r after ∙ h.many ∙ sym (set_long roles r before);
    as_many = set_long ahead r k ∙ h.as_many ∙ sym (set_long roles r before);
    each = λ i x y at bt. go i x y at bt (eqb_tells i r);
  }
    where
      go : (i : ℕ) (x y : Role) → slice_get (slice_set roles r before) i ≡ Some x → slice_get (slice_set now r after) i ≡ Some y →
          ((i == r) ≡ true) × (i ≡ r) ⊎ ((i == r) ≡ false) × (i ≢ r) → RoleAlone p x (get_or (set ahead r k) i 0) y
      go i x y at bt (inl is) =
          let first : before ≡ x =
          some_is (sym (set_here roles r before lt) ∙ ap (slice_get (slice_set roles r before)) (sym is.1) ∙ at) in
          let second : after ≡ y =
          some_is (sym (set_here now r after (subst (λ n. r < n) (sym h.many) lt)) ∙ ap (slice_get (slice_set now r after)) (sym is.1) ∙ bt)
          in
          let steps : k ≡ get_or (set ahead r k) i 0 =
          sym (ap (λ j. get_or (set ahead r k) j 0) is.1 ∙ get_or-set_same ahead r k 0 (subst (λ n. r < n) (sym h.as_many) lt)) in
          subst (λ (b : Role). RoleAlone p b (get_or (set ahead r k) i 0) y) first
          (subst (λ (a : Role). RoleAlone p before (get_or (set ahead r k) i 0) a) second
          (subst (λ n. RoleAlone p before n after) steps alone))
      go i x y at bt (inr not) =
          subst (λ n. RoleAlone p x n y) (sym (get_or-set_other ahead r i k 0 not.1))
          (h.each i x y (sym (set_there roles r i before not.1) ∙ at) (sym (set_there now r i after not.1) ∙ bt))

  module _ (w now : World) (ahead : List ℕ) (h : WorldAhead p w ahead now) (r : ℕ) (lt : r < length w.roles) where
    -- the role in both
    abbrev Both : Type 0
    Both = (before : Role) × (slice_get w.roles r ≡ Some before) × (after : Role) × (slice_get now.roles r ≡ Some after)

    pub both : Both
    both =
        let x = get_within w.roles r lt in
        let y = get_within now.roles r (subst (λ n. r < n) (sym h.roles.many) lt) in
        (x.0, x.1, y.0, y.1)

    -- a turn of the world that counts, and what is left of a role's steps ahead behind it
    abbrev pub Follows : (ahead : List ℕ) → (now : World) → Type 0
    Follows later after = (v : World) × (Advances p w r v true × WorldAhead p v later after)

    -- the first of the role's steps is its turn
    catches_up : (k : ℕ) (before after now_after : Role) (v : World) → slice_get w.roles r ≡ Some before → RoleAlone p before (suc k) after
        →
        v ≡ with_role now r after → Follows (set ahead r k) v
    catches_up k before after now_after v at alone is = go (first_of p before after k alone)
      where
        go : FirstOf p before k after → Follows (set ahead r k) v
        go (mid, (one, rest)) = (
          with_role w r mid,
          (
            turned (by_roles p w r 1 before mid at one),
            subst (λ (u : World). WorldAhead p (with_role w r mid) (set ahead r k) u) (sym is) (record {
              roles = put w.roles now.roles ahead h.roles r k mid after lt rest;
              messages = h.messages;
              events = h.events;
            }),
          ),
        )
          where
            turned : AllCount p w r 1 (with_role w r mid) → Advances p w r (with_role w r mid) true
            turned (u, (same, a)) = subst (λ (x : World). Advances p x r (with_role w r mid) true) same a

    -- a turn of a role that is ahead
    pub counts_down : (k : ℕ) → get_or ahead r 0 ≡ suc k → Follows (set ahead r k) now
    counts_down k is =
        catches_up k both.0 both.2 both.2 now both.1
        (subst (λ n. RoleAlone p both.0 n both.2) is (h.roles.each r both.0 both.2 both.1 both.3))
        (ap (λ l. record { roles = l; messages = now.messages; events = now.events }) (sym (set_same now.roles r both.2 both.3)))

    -- of a role that is not ahead
    module _ (none : get_or ahead r 0 ≡ 0) where
      same_role : both.2 ≡ both.0
      same_role = none_alone p both.0 both.2 (subst (λ n. RoleAlone p both.0 n both.2) none (h.roles.each r both.0 both.2 both.1 both.3))

      pub there : slice_get now.roles r ≡ slice_get w.roles r
      there = both.3 ∙ ap (λ x. Some x) same_role ∙ sym both.1

      same_ahead : set ahead r 0 ≡ ahead
      same_ahead =
          set_same ahead r 0 (slice_get-get_or ahead r 0 (subst (λ n. r < n) (sym h.roles.as_many) lt) ∙ ap (λ k. Some k) none)

      put_same : (role : Role) → RolesAhead p (slice_set w.roles r role) ahead (slice_set now.roles r role)
      put_same role =
          subst (λ (l : List ℕ). RolesAhead p (slice_set w.roles r role) l (slice_set now.roles r role)) same_ahead
          (put w.roles now.roles ahead h.roles r 0 role role lt (no_step p role))

      both_step : (count : ℕ) (out : Stepped) → WorldAhead p (stepped w r count out) ahead (stepped now r count out)
      both_step count (Went m q event) = record {
        roles = put_same (running m (suc count));
        messages = refl;
        events = ap (λ es. es ++ map (of_role r) (noted event)) h.events;
      }
      both_step count (Waits peer) = h
      both_step count (Stops ending) = record {
        roles = put_same (record { state = Over ending; count = suc count });
        messages = h.messages;
        events = h.events;
      }

      both_turn : WorldAhead p (turn p w r) ahead (turn p now r)
      both_turn =
          subst (λ (u : World). WorldAhead p u ahead (turn p now r)) (sym (ap (turn_at p w r) both.1))
          (subst (λ (u : World). WorldAhead p (turn_in p w r both.0.count both.0.state) ahead u)
          (sym (ap (turn_at p now r) (there ∙ both.1))) (by_state both.0.count both.0.state))
        where
          by_state : (count : ℕ) (s : State) → WorldAhead p (turn_in p w r count s) ahead (turn_in p now r count s)
          by_state count (Runs m) =
              subst (λ (q : Messages). WorldAhead p (stepped w r count (step p r m w.messages)) ahead (stepped now r count (step p r m q)))
              (sym h.messages) (both_step count (step p r m w.messages))
          by_state count (Over ending) = h

      same_still : (s : State) → IsStill p now r s → IsStill p w r s
      same_still (Runs m) still = (still.0, ap (step p r m) (sym h.messages) ∙ still.1)
      same_still (Over ending) still = tt

      still_before : (s : State) → IsStill p w r s → IsStill p now r s
      still_before (Runs m) still = (still.0, ap (step p r m) h.messages ∙ still.1)
      still_before (Over ending) still = tt

      -- a turn that finds the role still
      pub idles : (v : World) → Advances p now r v false → Advances p w r w false × WorldAhead p w ahead v
      idles v (still, same) = (
        ((λ role at. same_still role.state (still role (there ∙ at))), refl),
        subst (λ (u : World). WorldAhead p w ahead u) (sym same) h,
      )

      -- a turn that counts
      goes_on : (v : World) → Advances p now r v true → Follows (set ahead r 0) v
      goes_on v (made, more, restless) = (
        turn p w r,
        (
          counts (turns_count p w r),
          subst (λ (l : List ℕ). WorldAhead p (turn p w r) l v) (sym same_ahead)
              (subst (λ (u : World). WorldAhead p (turn p w r) ahead u) (sym made) both_turn),
        ),
      )
        where
          moves : StillAt p w r → ⊥
          moves still =
              let quiet : v ≡ now = made ∙ still_turn p now r (λ role at. still_before role.state (still role (sym there ∙ at))) in
              let e : counted v ≡ counted now = ap counted quiet in
              absurd (omega (arith, more, e))

          counts : (turn p w r ≡ w) × StillAt p w r ⊎ (counted (turn p w r) ≡ suc (counted w)) → Advances p w r (turn p w r) true
          counts (inl still) = absurd (moves still.1)
          counts (inr one_more) = (refl, one_more, λ rests. moves (λ role at. rests r role at))

      -- turns that are taken at once
      pub takes : (k : ℕ) (v : World) → Counts p now r (suc k) v → Follows (set ahead r k) v
      takes zero v a = goes_on v a
      takes (suc k) v t =
          catches_up (suc k) t.before t.after t.after v (sym there ∙ t.there) t.alone t.is

    -- who is still in the world of the turns isn't ahead, and is still
    pub rests_too : StillAt p w r → (get_or ahead r 0 ≡ 0) × Advances p now r now false
    rests_too still = go (get_or ahead r 0) refl
      where
        go : (k : ℕ) → get_or ahead r 0 ≡ k → (get_or ahead r 0 ≡ 0) × Advances p now r now false
        go zero e = (e, ((λ role at. still_before e role.state (still role (sym (there e) ∙ at))), refl))
        go (suc k) e =
            absurd (not_still p w r both.0 both.2 k
            (subst (λ n. RoleAlone p both.0 n both.2) e (h.roles.each r both.0 both.2 both.1 both.3)) (still both.0 both.1))

-- in a world that rests no role is ahead
pub rests_caught_up : (p : Program) (w now : World) (ahead : List ℕ) → WorldAhead p w ahead now → Rests p w → now ≡ w
rests_caught_up p w now ahead h rests =
    caught_up p w now ahead h (λ r k before after at is alone. not_still p w r before after k alone (rests r before at))
