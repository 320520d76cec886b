-- How far a run of several roles has come, some of which are ahead of the turns that were counted.
use Rattle.std.proofs.Common.{◌≡◌, ◌⊎◌, inl, inr, ◌<◌, ◌≤◌, ◌+◌, ◌-◌, ◌*◌, ◌%◌, ◌^◌, ℕ, zero, suc, List, length, get_or, set, replicate}
use Rattle.std.proofs.Common.{Option, Some, slice_get, false, Contains, IfSome, refl, sym, ap, ◌∙◌, subst, arith, set-set, mod-eq_of_lt}
use Rattle.std.proofs.lemmas.List.{length-replicate, get_or-set_same, get_or-set_other}
use Rattle.std.proofs.lemmas.Nat.{mod_below}
use Rattle.std.proofs.lemmas.Option.{slice_get-get_or}
use Rattle.vm_model.specs.Program.{Program}
use Rattle.vm_world_law.specs.World.{Role, World}
use Rattle.vm_world_law.specs.Turns.{counted, IsRun, Advances, StillAt}
use Rattle.vm_world_law.proofs.Moments.{rest_moment}
use Rattle.vm_world.specs.Alone.{Counts}
use Rattle.vm_world.specs.Seen.{Seen}
use Rattle.vm_world.proofs.Ahead.{WorldAhead, none_ahead, caught_up, rests_caught_up, rests_too, Follows, counts_down, takes, idles, there}
use Rattle.vm_world.proofs.Due.{AllDue, none_due, due_within, behind_counted, behind_taken, behind_idle, mod_more, mod_whole}
use Rattle.vm_world.proofs.Going.{Going, begin, in_order, next_mod, following_idle, following_count, room, stopped}

-- the moment of the turns that were counted, and the world that is ahead of it
pub record Several (p : Program) (first : World) (order : List ℕ) (limit : ℕ) (now : Seen) (ahead : List ℕ) (left idle next : ℕ) : Type 0
  where
    pub so_far : World
    pub going : Going p first order limit (record { program = p; world = so_far }) left idle next
    pub program : now.program ≡ p
    pub world : WorldAhead p so_far ahead now.world
    pub due : AllDue order next left ahead

zero_there : (n r : ℕ) → get_or {A = ℕ} (replicate n 0) r 0 ≡ 0
zero_there zero r = refl
zero_there (suc n) zero = refl
zero_there (suc n) (suc r) = zero_there n r

module _ (p : Program) (first : World) (order : List ℕ) (limit : ℕ) where
  pub begin_several : (now : Seen) (ahead : List ℕ) → now.program ≡ p → now.world ≡ first → counted first ≡ 0 →
      ahead ≡ replicate (length first.roles) 0 → Several p first order limit now ahead limit 0 0
  begin_several now ahead program world none is =
      let zeros : (r : ℕ) → get_or ahead r 0 ≡ 0 = λ r. ap (λ l. get_or l r 0) is ∙ zero_there (length first.roles) r in
      record {
        so_far = first;
        going = begin p first order limit (record { program = p; world = first }) refl refl none;
        program = program;
        world = subst (λ (w : World). WorldAhead p first ahead w) (sym world)
            (none_ahead p first ahead (ap length is ∙ length-replicate (length first.roles) 0) zeros);
        due = λ r. inl (zeros r);
      }

  module _ (now : Seen) (ahead : List ℕ) (left idle next : ℕ) (h : Several p first order limit now ahead left idle next) where
    abbrev before : Seen
    before = record { program = p; world = h.so_far }

    roles_long : length now.world.roles ≡ length first.roles
    roles_long = h.world.roles.many ∙ h.going.long

    ahead_long : length ahead ≡ length first.roles
    ahead_long = h.world.roles.as_many ∙ h.going.long

    -- it stops
    pub several_stopped : ((r : ℕ) → r < length first.roles → Contains order r) → (left ≡ 0) ⊎ (length order ≤ idle) →
        IsRun p first order limit now.world
    several_stopped named why =
        subst (λ (w : World). IsRun p first order limit w) (sym (same why))
        (stopped p first order limit before left idle next h.going named why)
      where
        same : (left ≡ 0) ⊎ (length order ≤ idle) → now.world ≡ h.so_far
        same (inl none) =
            caught_up p h.so_far now.world ahead h.world
            (λ r k a b at is alone.
            let zero_left : AllDue order next 0 ahead = subst (λ n. AllDue order next n ahead) none h.due in
            let e : suc k ≡ 0 = sym is ∙ none_due order next r (get_or ahead r 0) (zero_left r) in
            absurd (omega (arith, e)))
        same (inr enough) =
            rests_caught_up p h.so_far now.world ahead h.world
            (rest_moment p first order limit h.going.since idle h.so_far h.going.moment
            (λ r lt. named r (subst (λ n. r < n) h.going.long lt)) enough)

    module _ (more : idle < length order) (numbers : (i r : ℕ) → slice_get order i ≡ Some r → r < length first.roles)
        (role : ℕ) (at : role ≡ get_or order next 0) where
      within : next < length order
      within = in_order p first order limit before left idle next h.going more

      pub lt : role < length first.roles
      lt = numbers next role (slice_get-get_or order next 0 within ∙ ap (λ r. Some r) (sym at))

      pub within_ahead : role < length ahead
      within_ahead = subst (λ n. role < n) (sym ahead_long) lt

      pub within_roles : role < length now.world.roles
      within_roles = subst (λ n. role < n) (sym roles_long) lt

      lt_so_far : role < length h.so_far.roles
      lt_so_far = subst (λ n. role < n) (sym h.going.long) lt

      module _ (after : Seen) (same : after.program ≡ now.program) (place : ℕ) (following : place ≡ (next + 1) % length order) where
        counting : (later : List ℕ) → 0 < left → Follows p h.so_far now.world ahead h.world role lt_so_far later after.world →
            AllDue order place (left - 1) later → Several p first order limit after later (left - 1) 0 place
        counting later some (v, (a, w)) due = record {
          so_far = v;
          going = following_count p first order limit before left idle next h.going more role at
              (record { program = p; world = v }) place refl a following some;
          program = same ∙ h.program;
          world = w;
          due = due;
        }

        -- a turn of a role that isn't ahead
        pub taken_several : (k : ℕ) → get_or ahead role 0 ≡ 0 → 0 < left → Counts now.program now.world role k after.world → 0 < k →
            (k ≤ 1) ⊎ (k * length order ≤ left) → Several p first order limit after (set ahead role (k - 1)) (left - 1) 0 place
        taken_several zero none some t took come = absurd (omega (arith, took))
        taken_several (suc k) none some t took come =
            subst (λ j. Several p first order limit after (set ahead role j) (left - 1) 0 place) (let e : k ≡ suc k - 1 = omega arith in e)
            (counting (set ahead role k) some
            (takes p h.so_far now.world ahead h.world role lt_so_far none k after.world
            (subst (λ (q : Program). Counts q now.world role (suc k) after.world) h.program t))
            (behind_taken order next left within role place at following ahead h.due k within_ahead come))

        -- a turn that found its role still
        pub idle_several : get_or ahead role 0 ≡ 0 → Advances now.program now.world role after.world false →
            Several p first order limit after ahead left (idle + 1) place
        idle_several none a =
            let i = idles p h.so_far now.world ahead h.world role lt_so_far none after.world
            (subst (λ (q : Program). Advances q now.world role after.world false) h.program a) in
            record {
              so_far = h.so_far;
              going = following_idle p first order limit before left idle next h.going more role at before place refl i.0 following;
              program = same ∙ h.program;
              world = i.1;
              due = behind_idle order next left role place ahead within at following h.due none;
            }

      -- a turn of a role that is ahead
      pub down_several : (place : ℕ) → place ≡ (next + 1) % length order → 0 < get_or ahead role 0 → 0 < left →
          Several p first order limit now (set ahead role (get_or ahead role 0 - 1)) (left - 1) 0 place
      down_several place following is_ahead some =
          let k = get_or ahead role 0 - 1 in
          let is : get_or ahead role 0 ≡ suc k = omega (arith, is_ahead) in
          counting now refl place following (set ahead role k) some
          (counts_down p h.so_far now.world ahead h.world role lt_so_far k is)
          (behind_counted order next left within role place at following ahead h.due k within_ahead is)

      -- a role that isn't ahead has room for those that are left
      pub room_several : get_or ahead role 0 ≡ 0 → limit < 2 ^ 32 → IfSome (slice_get now.world.roles role) (λ r. r.count + left < 2 ^ 32)
      room_several none fits =
          let le : left ≤ left = omega arith in
          subst (λ (o : Option Role). IfSome o (λ r. r.count + left < 2 ^ 32))
          (sym (there p h.so_far now.world ahead h.world role lt_so_far none))
          (room p first order limit before left idle next role left h.going le fits)

  -- Turns of one role while those of all others find them still.

  module _ (now : Seen) (numbers : (i r : ℕ) → slice_get order i ≡ Some r → r < length first.roles) (next role : ℕ)
      (at : role ≡ get_or order next 0) where
    -- the role whose turn comes so many turns behind the next
    abbrev later : ℕ → ℕ
    later t = get_or order ((next + 1 + t) % length order) 0

    -- in the cycle behind the next turn no role is ahead, and each is still
    abbrev Others : List ℕ → Type 0
    Others ahead = (t : ℕ) → t + 1 < length order → (get_or ahead (later t) 0 ≡ 0) × Advances p now.world (later t) now.world false

    -- as the last turns found them
    others_of : (ahead : List ℕ) (left idle : ℕ) → Several p first order limit now ahead left idle next → idle + 1 ≡ length order →
        Others ahead
    others_of ahead left idle h full t lt =
        rests_too p h.so_far now.world ahead h.world (later t)
        (subst (λ n. later t < n) (sym h.going.long)
        (numbers ((next + 1 + t) % length order) (later t)
        (slice_get-get_or order ((next + 1 + t) % length order) 0 (mod_below (next + 1 + t) (length order) some))))
        (subst (λ k. StillAt p h.so_far (get_or order k 0)) (sym same_place)
        (h.going.moment.still (h.going.since + t) (omega arith) (omega (arith, lt, full))))
      where
        some : 0 < length order
        some = omega (arith, lt)

        same_place : (next + 1 + t) % length order ≡ (h.going.since + t) % length order
        same_place =
            ap (λ k. k % length order) (let e : next + 1 + t ≡ next + (1 + t) = omega arith in e)
            ∙ ap (λ k. (k + (1 + t)) % length order) (h.going.next_is some)
            ∙ mod_more (h.going.since + idle) (1 + t) (length order)
            ∙ ap (λ k. k % length order)
            (let e : h.going.since + idle + (1 + t) ≡ h.going.since + t + length order = omega (arith, full) in e)
            ∙ mod_whole (h.going.since + t) (length order)

    -- they are as they were behind a turn of the role
    others_stay : (ahead : List ℕ) (k : ℕ) → get_or ahead role 0 ≡ suc k → Others ahead → Others (set ahead role k)
    others_stay ahead k is others t lt =
        let o = others t lt in
        let apart : later t ≡ role → ⊥ =
        λ same. let e : get_or ahead (later t) 0 ≡ get_or ahead role 0 = ap (λ r. get_or ahead r 0) same in omega (arith, e, o.0, is) in
        (get_or-set_other ahead role (later t) k 0 apart ∙ o.0, o.1)

    one_down : (ahead : List ℕ) (left idle k : ℕ) → Several p first order limit now ahead left idle next → idle < length order →
        get_or ahead role 0 ≡ suc k → 0 < left →
        Several p first order limit now (set ahead role k) (left - 1) 0 ((next + 1) % length order)
    one_down ahead left idle k h more is some =
        subst (λ j. Several p first order limit now (set ahead role j) (left - 1) 0 ((next + 1) % length order))
        (let e : get_or ahead role 0 - 1 ≡ k = omega (arith, is) in e)
        (down_several now ahead left idle next h more numbers role at ((next + 1) % length order) refl (omega (arith, is)) some)

    idle_turns : (ahead : List ℕ) (left : ℕ) → Others ahead →
        Several p first order limit now ahead left 0 ((next + 1) % length order) →
        (t : ℕ) → t < length order → Several p first order limit now ahead left t ((next + 1 + t) % length order)
    idle_turns ahead left others h zero lt =
        subst (λ k. Several p first order limit now ahead left 0 (k % length order)) (let e : next + 1 ≡ next + 1 + 0 = omega arith in e) h
    idle_turns ahead left others h (suc t) lt =
        let here = idle_turns ahead left others h t (omega (arith, lt)) in
        let o = others t (omega (arith, lt)) in
        let place : (next + 1 + suc t) % length order ≡ ((next + 1 + t) % length order + 1) % length order =
        ap (λ k. k % length order) (let e : next + 1 + suc t ≡ suc (next + 1 + t) = omega arith in e)
        ∙ sym (next_mod (next + 1 + t) (length order) (omega (arith, lt))) in
        subst (λ i. Several p first order limit now ahead left i ((next + 1 + suc t) % length order))
        (let e : t + 1 ≡ suc t = omega arith in e)
        (idle_several now ahead left t ((next + 1 + t) % length order) here (omega (arith, lt)) numbers (later t) refl now refl
        ((next + 1 + suc t) % length order) place o.0
        (subst (λ (q : Program). Advances q now.world (later t) now.world false) (sym here.program) o.1))

    -- a whole cycle
    cycle : (ahead : List ℕ) (left idle k : ℕ) → Several p first order limit now ahead left idle next → idle < length order →
        Others ahead → get_or ahead role 0 ≡ suc k → 0 < left →
        Several p first order limit now (set ahead role k) (left - 1) (length order - 1) next
    cycle ahead left idle k h more others is some =
        let within : next < length order =
        in_order p first order limit (record { program = p; world = h.so_far }) left idle next h.going more in
        let back : (next + 1 + (length order - 1)) % length order ≡ next =
        ap (λ n. n % length order) (let e : next + 1 + (length order - 1) ≡ next + length order = omega (arith, more) in e)
        ∙ mod_whole next (length order) ∙ mod-eq_of_lt within in
        subst (Several p first order limit now (set ahead role k) (left - 1) (length order - 1)) back
        (idle_turns (set ahead role k) (left - 1) (others_stay ahead k is others) (one_down ahead left idle k h more is some)
        (length order - 1) (omega (arith, more)))

    all_down : (k : ℕ) (ahead : List ℕ) (left idle : ℕ) → Several p first order limit now ahead left idle next → idle < length order →
        Others ahead → get_or ahead role 0 ≡ suc k → suc k ≤ left →
        Several p first order limit now (set ahead role 0) (left - suc k) 0 ((next + 1) % length order)
    all_down zero ahead left idle h more others is le = one_down ahead left idle 0 h more is (omega (arith, le))
    all_down (suc k) ahead left idle h more others is le =
        let same : get_or (set ahead role (suc k)) role 0 ≡ suc k =
        get_or-set_same ahead role (suc k) 0 (within_ahead now ahead left idle next h more numbers role at) in
        let rest = all_down k (set ahead role (suc k)) (left - 1) (length order - 1)
        (cycle ahead left idle (suc k) h more others is (omega (arith, le))) (omega (arith, more)) (others_stay ahead (suc k) is others)
        same (omega (arith, le)) in
        subst (λ n. Several p first order limit now (set ahead role 0) n 0 ((next + 1) % length order))
        (let e : left - 1 - suc k ≡ left - suc (suc k) = omega arith in e)
        (subst (λ (l : List ℕ). Several p first order limit now l (left - 1 - suc k) 0 ((next + 1) % length order))
        (set-set ahead role (suc k) 0) rest)

    module _ (ahead : List ℕ) (left idle : ℕ) (h : Several p first order limit now ahead left idle next) (more : idle < length order)
        (some : 0 < left) (is_ahead : 0 < get_or ahead role 0) (count : ℕ)
        (come : (count ≡ 1) ⊎ (count ≡ get_or ahead role 0) × (idle + 1 ≡ length order)) where
      -- no more are counted than are left
      pub come_within : count ≤ left
      come_within = go come
        where
          go : (count ≡ 1) ⊎ (count ≡ get_or ahead role 0) × (idle + 1 ≡ length order) → count ≤ left
          go (inl one) = omega (arith, one, some)
          go (inr all) =
              let le = due_within order next left role (get_or ahead role 0) (omega (arith, more)) (h.due role) in omega (arith, all.0, le)

      -- turns of a role that is ahead
      pub come_several : (place : ℕ) → place ≡ (next + 1) % length order →
          Several p first order limit now (set ahead role (get_or ahead role 0 - count)) (left - count) 0 place
      come_several place following =
          subst (λ n. Several p first order limit now (set ahead role (get_or ahead role 0 - count)) (left - count) 0 n) (sym following)
          (go come)
        where
          go : (count ≡ 1) ⊎ (count ≡ get_or ahead role 0) × (idle + 1 ≡ length order) →
              Several p first order limit now (set ahead role (get_or ahead role 0 - count)) (left - count) 0 ((next + 1) % length order)
          go (inl one) =
              subst (λ n. Several p first order limit now (set ahead role (get_or ahead role 0 - n)) (left - n) 0
              ((next + 1) % length order)) (sym one)
              (down_several now ahead left idle next h more numbers role at ((next + 1) % length order) refl is_ahead some)
          go (inr all) =
              let k = get_or ahead role 0 - 1 in
              let is : get_or ahead role 0 ≡ suc k = omega (arith, is_ahead) in
              let none : 0 ≡ get_or ahead role 0 - count = omega (arith, all.0) in
              let fewer : left - suc k ≡ left - count = omega (arith, all.0, is) in
              subst (λ n. Several p first order limit now (set ahead role n) (left - count) 0 ((next + 1) % length order)) none
              (subst (λ n. Several p first order limit now (set ahead role 0) n 0 ((next + 1) % length order)) fewer
              (all_down k ahead left idle h more (others_of ahead left idle h all.1) is (omega (arith, come_within, all.0, is))))
