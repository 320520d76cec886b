-- When the turns of a role come: each that it was taken ahead by comes before those that are left have ended.
use Rattle.std.proofs.Common.{◌≡◌, ◌≢◌, ◌⊎◌, inl, inr, ◌<◌, ◌≤◌, ◌+◌, ◌-◌, ◌*◌, ◌/◌, ◌%◌, ℕ, zero, suc, List, length, get_or, set, true}
use Rattle.std.proofs.Common.{false, refl, sym, ap, ◌∙◌, subst, arith, mod-eq_of_lt}
use Rattle.std.specs.Prelude.{◌==◌}
use Rattle.std.proofs.lemmas.Bool.Decides.{eqb_tells}
use Rattle.std.proofs.lemmas.List.{get_or-set_same, get_or-set_other}
use Rattle.std.proofs.Math.Nat.{div-add-mod', mul-add-mod_self_right}

pub mod_more : (k t n : ℕ) → (k % n + t) % n ≡ (k + t) % n
mod_more k t n =
    sym (ap (λ m. m % n) (let e : k + t ≡ k / n * n + (k % n + t) = omega (arith, div-add-mod' k n) in e) ∙ mul-add-mod_self_right (k / n) n
    (k % n + t))

-- a whole cycle on is the same place
pub mod_whole : (k n : ℕ) → (k + n) % n ≡ k % n
mod_whole k n = ap (λ m. m % n) (let e : k + n ≡ 1 * n + k = omega arith in e) ∙ mul-add-mod_self_right 1 n k

-- A turn of the role comes after so many others, and then one in each cycle: as many as this before those that are left have ended.
pub record Comes (order : List ℕ) (next left role many : ℕ) : Type 0 where
  pub others : ℕ
  pub is : get_or order ((next + others) % length order) 0 ≡ role
  pub before : others + many * length order < left + length order

-- so many turns of a role are yet to come
abbrev pub IsDue : (order : List ℕ) → (next left role many : ℕ) → Type 0
IsDue order next left role many = (many ≡ 0) ⊎ Comes order next left role many

-- the same of each role
abbrev pub AllDue : (order : List ℕ) → (next left : ℕ) → (ahead : List ℕ) → Type 0
AllDue order next left ahead = (r : ℕ) → IsDue order next left r (get_or ahead r 0)

-- none is due where none is left
pub none_due : (order : List ℕ) (next role many : ℕ) → IsDue order next 0 role many → many ≡ 0
none_due order next role many (inl none) = none
none_due order next role zero (inr c) = refl
none_due order next role (suc k) (inr c) =
    let grown : suc k * length order ≡ k * length order + length order = grind arith in
    absurd (omega (arith, c.before, grown))

times_more : (k n : ℕ) → 0 < n → k ≤ k * n
times_more k zero some = absurd (omega (arith, some))
times_more k (suc n) some = let e : k * suc n ≡ k * n + k = grind arith in omega (arith, e)

-- no more are due than are left
pub due_within : (order : List ℕ) (next left role many : ℕ) → 0 < length order → IsDue order next left role many → many ≤ left
due_within order next left role many some (inl none) = omega (arith, none)
due_within order next left role zero some (inr c) = omega arith
due_within order next left role (suc k) some (inr c) =
    let grown : suc k * length order ≡ k * length order + length order = grind arith in
    let le : k ≤ k * length order = times_more k (length order) some in
    omega (arith, c.before, grown, le)

module _ (order : List ℕ) (next left : ℕ) (within : next < length order) where
  -- with more that are left no fewer come
  more_left : (fewer role many : ℕ) → fewer ≤ left → IsDue order next fewer role many → IsDue order next left role many
  more_left fewer role many le (inl none) = inl none
  more_left fewer role many le (inr c) = inr (record { others = c.others; is = c.is; before = omega (arith, c.before, le) })

  module _ (role place : ℕ) (at : role ≡ get_or order next 0) (following : place ≡ (next + 1) % length order) where
    here : get_or order ((next + 0) % length order) 0 ≡ role
    here = ap (λ k. get_or order (k % length order) 0) (let e : next + 0 ≡ next = omega arith in e)
        ∙ ap (λ k. get_or order k 0) (mod-eq_of_lt within) ∙ sym at

    on : (t : ℕ) → (place + t) % length order ≡ (next + suc t) % length order
    on t = ap (λ k. (k + t) % length order) following ∙ mod_more (next + 1) t (length order)
        ∙ ap (λ k. k % length order) (let e : next + 1 + t ≡ next + suc t = omega arith in e)

    -- the role's own turn comes again after a whole cycle
    again : get_or order ((place + (length order - 1)) % length order) 0 ≡ role
    again = ap (λ k. get_or order k 0)
        (on (length order - 1)
        ∙ ap (λ k. k % length order) (let e : next + suc (length order - 1) ≡ next + length order = omega (arith, within) in e)
        ∙ mod_whole next (length order))
        ∙ ap (λ k. get_or order k 0) (mod-eq_of_lt within) ∙ sym at

    -- of another role the same turns come
    of_other : (other many : ℕ) → other ≢ role → IsDue order next left other many → IsDue order place (left - 1) other many
    of_other other many not (inl none) = inl none
    of_other other many not (inr c) = go c.others c.is c.before
      where
        go : (t : ℕ) → get_or order ((next + t) % length order) 0 ≡ other → t + many * length order < left + length order →
            IsDue order place (left - 1) other many
        go zero is before = absurd (not (sym is ∙ here))
        go (suc t) is before = inr (record { others = t; is = ap (λ k. get_or order k 0) (on t) ∙ is; before = omega (arith, before) })

    -- of the role itself one less
    of_itself : (many : ℕ) → IsDue order next left role (suc many) → IsDue order place (left - 1) role many
    of_itself zero h = inl refl
    of_itself (suc many) (inl none) = absurd (omega (arith, none))
    of_itself (suc many) (inr c) = go c.others c.is c.before
      where
        fewer : suc (suc many) * length order ≡ suc many * length order + length order
        fewer = grind arith

        go : (t : ℕ) → get_or order ((next + t) % length order) 0 ≡ role → t + suc (suc many) * length order < left + length order →
            IsDue order place (left - 1) role (suc many)
        go zero is before = inr (record { others = length order - 1; is = again; before = omega (arith, before, fewer, within) })
        go (suc t) is before =
            inr (record { others = t; is = ap (λ k. get_or order k 0) (on t) ∙ is; before = omega (arith, before, fewer, within) })

    -- as many as come to it of those that are left, or one
    of_taken : (many : ℕ) → (suc many ≤ 1) ⊎ (suc many * length order ≤ left) → IsDue order place (left - 1) role many
    of_taken zero h = inl refl
    of_taken (suc many) (inl le) = absurd (omega (arith, le))
    of_taken (suc many) (inr enough) = inr (record { others = length order - 1; is = again; before = omega (arith, grown, enough, within) })
      where
        grown : suc (suc many) * length order ≡ suc many * length order + length order
        grown = grind arith

    module _ (ahead : List ℕ) (due : AllDue order next left ahead) where
      same_for_others : (r many : ℕ) → r ≢ role → get_or (set ahead role many) r 0 ≡ get_or ahead r 0
      same_for_others r many not = get_or-set_other ahead role r many 0 not

      -- behind a turn that counts
      behind : (many : ℕ) → role < length ahead → IsDue order place (left - 1) role many →
          AllDue order place (left - 1) (set ahead role many)
      behind many lt h r = go (eqb_tells r role)
        where
          go : ((r == role) ≡ true) × (r ≡ role) ⊎ ((r == role) ≡ false) × (r ≢ role) →
              IsDue order place (left - 1) r (get_or (set ahead role many) r 0)
          go (inl is) =
              subst (λ k. IsDue order place (left - 1) k (get_or (set ahead role many) k 0)) (sym is.1)
              (subst (IsDue order place (left - 1) role) (sym (get_or-set_same ahead role many 0 lt)) h)
          go (inr not) =
              subst (IsDue order place (left - 1) r) (sym (same_for_others r many not.1))
              (of_other r (get_or ahead r 0) not.1 (due r))

      pub behind_counted : (many : ℕ) → role < length ahead → get_or ahead role 0 ≡ suc many →
          AllDue order place (left - 1) (set ahead role many)
      behind_counted many lt is = behind many lt (of_itself many (subst (IsDue order next left role) is (due role)))

      pub behind_taken : (many : ℕ) → role < length ahead → (suc many ≤ 1) ⊎ (suc many * length order ≤ left) →
          AllDue order place (left - 1) (set ahead role many)
      behind_taken many lt h = behind many lt (of_taken many h)

-- behind a turn that found its role still, which is not ahead
pub behind_idle : (order : List ℕ) (next left role place : ℕ) (ahead : List ℕ) → next < length order → role ≡ get_or order next 0 →
    place ≡ (next + 1) % length order → AllDue order next left ahead → get_or ahead role 0 ≡ 0 → AllDue order place left ahead
behind_idle order next left role place ahead within at following due none r = go (eqb_tells r role)
  where
    weaker : (many : ℕ) → IsDue order place (left - 1) r many → IsDue order place left r many
    weaker many (inl zeros) = inl zeros
    weaker many (inr c) = inr (record { others = c.others; is = c.is; before = omega (arith, c.before) })

    go : ((r == role) ≡ true) × (r ≡ role) ⊎ ((r == role) ≡ false) × (r ≢ role) → IsDue order place left r (get_or ahead r 0)
    go (inl is) = inl (ap (λ k. get_or ahead k 0) is.1 ∙ none)
    go (inr not) =
        weaker (get_or ahead r 0) (of_other order next left within role place at following r (get_or ahead r 0) not.1 (due r))
