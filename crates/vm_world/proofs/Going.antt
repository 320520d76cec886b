-- How far a run of several roles has come.
use Rattle.std.proofs.Common.{◌≡◌, ◌⊎◌, inl, inr, ◌<◌, ◌≤◌, ◌+◌, ◌-◌, ◌*◌, ◌/◌, ◌%◌, ◌^◌, ℕ, zero, suc, List, length, get_or, Option, Some}
use Rattle.std.proofs.Common.{None, slice_get, true, false, Contains, IfSome, refl, sym, ap, ◌∙◌, subst, arith, mod-eq_of_lt}
use Rattle.std.proofs.lemmas.Nat.{mod_below}
use Rattle.std.proofs.Math.Nat.{add-mul, div-add-mod', mul-add-mod_self_right}
use Rattle.vm_model.specs.Program.{Program}
use Rattle.vm_world_law.specs.World.{Role, World, turn, Rests}
use Rattle.vm_world_law.specs.Turns.{role_of_turn, counted, StopsAt, IsRun, StillAt}
use Rattle.vm_world_law.specs.Turns.{Advances}
use Rattle.vm_world.specs.Alone.{Counts, TurnsAlone}
use Rattle.vm_world.proofs.Alone.{AllCount, all_of_counts, counts_some, none_taken}
use Rattle.vm_world_law.proofs.Moments.{Moment, first_moment, idle_moment, count_moment, rest_moment, run_here, count_within}
use Rattle.vm_world_law.proofs.Stopping.{turn_long}
use Rattle.vm_world.specs.Seen.{Seen}

-- a moment of the run, so many instructions that may still be counted, so many turns that changed nothing since the last that did, and the
-- place of the next
pub record Going (p : Program) (first : World) (order : List ℕ) (limit : ℕ) (now : Seen) (left idle next : ℕ) : Type 0 where
  pub program : now.program ≡ p
  pub since : ℕ
  pub moment : Moment p first order limit since idle now.world
  pub next_is : 0 < length order → next ≡ (since + idle) % length order
  pub left_is : counted now.world + left ≡ limit
  pub long : length now.world.roles ≡ length first.roles
  pub few : idle ≤ length order

-- the place behind the next
pub next_mod : (k n : ℕ) → 0 < n → (k % n + 1) % n ≡ suc k % n
next_mod k n pos =
    sym (ap (λ m. m % n) (let e : suc k ≡ k / n * n + (k % n + 1) = omega (arith, div-add-mod' k n) in e) ∙ mul-add-mod_self_right (k / n) n
    (k % n + 1))

module _ (p : Program) (first : World) (order : List ℕ) (limit : ℕ) where
  pub begin : (now : Seen) → now.program ≡ p → now.world ≡ first → counted first ≡ 0 → Going p first order limit now limit 0 0
  begin now program world none = record {
    program = program;
    since = 0;
    moment = subst (Moment p first order limit 0 0) (sym world) (first_moment p first order limit);
    next_is = λ pos. sym (mod-eq_of_lt pos);
    left_is = ap (λ (w : World). counted w + limit) world ∙ ap (λ n. n + limit) none ∙ (let e : 0 + limit ≡ limit = omega arith in e);
    long = ap (λ (w : World). length w.roles) world;
    few = omega arith;
  }

  module _ (now : Seen) (left idle next : ℕ) (h : Going p first order limit now left idle next) (more : idle < length order) where
    some : 0 < length order
    some = omega (arith, more)

    pub in_order : next < length order
    in_order = subst (λ n. n < length order) (sym (h.next_is some)) (mod_below (h.since + idle) (length order) some)

    module _ (role : ℕ) (at : role ≡ get_or order next 0) where
      role_is : role_of_turn order (h.since + idle) ≡ role
      role_is =
          ap (λ i. get_or order i 0) (sym (h.next_is some)) ∙ sym at

      next_place : (place : ℕ) → place ≡ (next + 1) % length order → place ≡ suc (h.since + idle) % length order
      next_place place is =
          is ∙ ap (λ i. (i + 1) % length order) (h.next_is some) ∙ next_mod (h.since + idle) (length order) some

      pub following_idle : (after : Seen) (place : ℕ) → after.program ≡ now.program → Advances now.program now.world role after.world false
          →
          place ≡ (next + 1) % length order → Going p first order limit after left (idle + 1) place
      following_idle after place same a is = record {
        program = same ∙ h.program;
        since = h.since;
        moment = subst (λ (w : World). Moment p first order limit h.since (idle + 1) w) (sym a.1)
            (subst (λ i. Moment p first order limit h.since i now.world) (let e : suc idle ≡ idle + 1 = omega arith in e)
            (idle_moment p first order limit h.since idle now.world h.moment
            (subst (λ (q : Program). StillAt q now.world (role_of_turn order (h.since + idle))) h.program
            (subst (StillAt now.program now.world) (sym role_is) a.0))));
        next_is = λ pos. next_place place is ∙ ap (λ i. i % length order) (let e : suc (h.since + idle) ≡ h.since + (idle + 1) = omega arith
            in e);
        left_is = ap (λ (w : World). counted w + left) a.1 ∙ h.left_is;
        long = ap (λ (w : World). length w.roles) a.1 ∙ h.long;
        few = omega (arith, more);
      }

      pub following_count : (after : Seen) (place : ℕ) → after.program ≡ now.program → Advances now.program now.world role after.world true
          →
          place ≡ (next + 1) % length order → 0 < left → Going p first order limit after (left - 1) 0 place
      following_count after place same a is pos =
          let turned : after.world ≡ turn p now.world (role_of_turn order (h.since + idle)) =
          a.0 ∙ ap (λ (q : Program). turn q now.world role) h.program ∙ ap (turn p now.world) (sym role_is) in
          let fewer : counted after.world + (left - 1) ≡ limit = omega (arith, a.1, h.left_is, pos) in
          record {
            program = same ∙ h.program;
            since = suc (h.since + idle);
            moment = subst (λ (w : World). Moment p first order limit (suc (h.since + idle)) 0 w) (sym turned)
                (count_moment p first order limit h.since idle now.world h.moment not_stopped);
            next_is = λ pos. next_place place is ∙ ap (λ i. i % length order)
                (let e : suc (h.since + idle) ≡ suc (h.since + idle) + 0 = omega arith in e);
            left_is = fewer;
            long = ap (λ (w : World). length w.roles) turned ∙ turn_long p now.world (role_of_turn order (h.since + idle)) ∙ h.long;
            few = omega arith;
          }
        where
          not_stopped : StopsAt p limit now.world → ⊥
          not_stopped (inl rests) = a.2 (subst (λ (q : Program). Rests q now.world) (sym h.program) rests)
          not_stopped (inr all) = absurd (omega (arith, all, h.left_is, pos))

  -- it stops
  pub stopped : (now : Seen) (left idle next : ℕ) → Going p first order limit now left idle next →
      ((r : ℕ) → r < length first.roles → Contains order r) →
      (left ≡ 0) ⊎ (length order ≤ idle) → IsRun p first order limit now.world
  stopped now left idle next h named (inl none) =
      run_here p first order limit h.since idle now.world h.moment (inr (omega (arith, h.left_is, none)))
  stopped now left idle next h named (inr enough) =
      run_here p first order limit h.since idle now.world h.moment
      (inl (rest_moment p first order limit h.since idle now.world h.moment (λ r lt. named r (subst (λ n. r < n) h.long lt)) enough))

  -- no role counted as much as may be counted
  pub room : (now : Seen) (left idle next r most : ℕ) → Going p first order limit now left idle next → most ≤ left → limit < 2 ^ 32 →
      IfSome (slice_get now.world.roles r) (λ role. role.count + most < 2 ^ 32)
  room now left idle next r most h within fits = go (slice_get now.world.roles r) refl
    where
      go : (o : Option Role) → slice_get now.world.roles r ≡ o → IfSome o (λ role. role.count + most < 2 ^ 32)
      go None at = tt
      go (Some role) at = let le = count_within now.world.roles r role at in omega (arith, le, h.left_is, within, fits)

  -- Turns in a row, in an order of one role.
  module _ (now : Seen) (left idle next : ℕ) (h : Going p first order limit now left idle next) (more : idle < length order)
      (role : ℕ) (at : role ≡ get_or order next 0) (one : length order ≡ 1) where
    -- the next is the same
    stays : next ≡ (next + 1) % length order
    stays =
        let lt : next < 1 = subst (λ n. next < n) one (in_order now left idle next h more) in
        let e : next ≡ (next + 1) % 1 = omega arith in
        subst (λ n. next ≡ (next + 1) % n) (sym one) e

    in_a_row : (k : ℕ) (after : Seen) → after.program ≡ now.program → AllCount now.program now.world role (suc k) after.world → suc k ≤ left
        →
        Going p first order limit after (left - suc k) 0 next
    in_a_row zero after same (u, (t, a)) le =
        following_count now left idle next h more role at after next same
        (subst (λ (w : World). Advances now.program w role after.world true) t a) stays (omega (arith, le))
    in_a_row (suc k) after same (u, (t, a)) le =
        let s : Seen = record { program = now.program; world = u } in
        let some : 0 < length order = omega (arith, one) in
        let fewer : left - suc k - 1 ≡ left - suc (suc k) = omega arith in
        subst (λ n. Going p first order limit after n 0 next) fewer
        (following_count s (left - suc k) 0 next (in_a_row k s refl t (omega (arith, le))) some role at after next same a stays
        (omega (arith, le)))

    pub following_row : (k : ℕ) (after : Seen) → after.program ≡ now.program → Counts now.program now.world role k after.world → 0 < k →
        k ≤ left →
        Going p first order limit after (left - k) 0 next
    following_row zero after same t some le = absurd (omega (arith, some))
    following_row (suc k) after same t some le =
        in_a_row k after same (all_of_counts now.program now.world after.world role k t) le

    -- turns that are taken alone, if any
    pub row_alone : (k : ℕ) (after : Seen) → after.program ≡ now.program → TurnsAlone now.program now.world role k after.world →
        k ≤ left → idle ≡ 0 → Going p first order limit after (left - k) 0 next
    row_alone zero after same t le none =
        let none_left : zero ≤ 0 = omega arith in
        let still : after ≡ now = none_taken now after role zero same t none_left in
        subst (λ (s : Seen). Going p first order limit s (left - zero) 0 next) (sym still)
        (subst (λ k. Going p first order limit now k 0 next) (let e : left ≡ left - zero = omega arith in e)
        (subst (λ i. Going p first order limit now left i next) none h))
    row_alone (suc k) after same t le none =
        let some : 0 < suc k = omega arith in
        following_row (suc k) after same (counts_some now.program now.world after.world role (suc k) some t) some le

    -- the role is found still, and with it all
    pub still_row : (after : Seen) → after.program ≡ now.program → Advances now.program now.world role after.world false →
        ((r : ℕ) → r < length first.roles → Contains order r) → IsRun p first order limit after.world
    still_row after same a named =
        stopped after left (idle + 1) next (following_idle now left idle next h more role at after next same a stays) named
        (inr (omega (arith, one)))

at_least : (k m : ℕ) → 0 < k → m ≤ k * m
at_least zero m pos = absurd (omega (arith, pos))
at_least (suc k) m pos = let e : suc k * m ≡ k * m + m = grind arith in omega (arith, e)

-- what is left gets less
pub fewer_left : (left k idle n : ℕ) → 0 < k → k ≤ left → idle ≤ n → (left - k) * (n + 1) + (n - 0) < left * (n + 1) + (n - idle)
fewer_left left k idle n pos within le =
    let whole : left - k + k ≡ left = omega (arith, within) in
    let e : left * (n + 1) ≡ (left - k) * (n + 1) + k * (n + 1) = sym (ap (λ j. j * (n + 1)) whole) ∙ add-mul (left - k) k (n + 1) in
    let f : n + 1 ≤ k * (n + 1) = at_least k (n + 1) pos in
    omega (arith, e, f, le)

pub zero_is : (k : ℕ) → k ≤ 0 → k ≡ 0
zero_is k h = omega (arith, h)

pub less_room : (o : Option Role) (most left : ℕ) → most ≤ left → IfSome o (λ r. r.count + left < 2 ^ 32) →
    IfSome o (λ r. r.count + most < 2 ^ 32)
less_room None most left le h = tt
less_room (Some role) most left le h = omega (arith, le, h)

-- no more were taken than are sure to come
pub all_come : (k most count left : ℕ) → k ≤ most → (most ≡ 1) ⊎ (most * count ≤ left) → (k ≤ 1) ⊎ (k * count ≤ left)
all_come k most count left le (inl one) = inl (omega (arith, le, one))
all_come k most count left le (inr come) =
    let whole : k + (most - k) ≡ most = omega (arith, le) in
    let e : most * count ≡ k * count + (most - k) * count = sym (ap (λ j. j * count) whole) ∙ add-mul k (most - k) count in
    inr (omega (arith, e, come))
