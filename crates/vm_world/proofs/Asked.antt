-- Roles that were found still since the last turn that may have moved a message.
use Rattle.std.proofs.Common.{◌≡◌, ◌≢◌, ◌⊎◌, inl, inr, ◌<◌, ◌≤◌, ◌+◌, ◌-◌, ℕ, zero, suc, List, length, get_or, set, replicate}
use Rattle.std.proofs.Common.{Bool, true, false, refl, sym, ap, ◌∙◌, subst, arith}
use Rattle.std.specs.Prelude.{◌==◌}
use Rattle.std.specs.Bool.{OnFalse}
use Rattle.std.proofs.lemmas.Bool.Decides.{eqb_tells}
use Rattle.std.proofs.lemmas.List.{get_or-set_same, get_or-set_other}
use Rattle.vm_model.specs.Program.{Program}
use Rattle.vm_world_law.specs.World.{World}
use Rattle.vm_world_law.specs.Turns.{Advances, StillAt}
use Rattle.vm_world_law.proofs.Lists.{set_there}
use Rattle.vm_world.specs.Alone.{TurnsAlone, Counts}
use Rattle.vm_world.specs.Seen.{Seen}
use Rattle.vm_world.specs.Telling.{LastMovesNone}
use Rattle.vm_world.proofs.Telling.{turn_stays}

-- who was asked at this version is still; a version is at most one more than what was counted
pub record Asked (now : Seen) (asked : List ℕ) (version left limit : ℕ) : Type 0 where
  pub still : (r : ℕ) → get_or asked r 0 ≡ version → StillAt now.program now.world r
  pub old : (r : ℕ) → get_or asked r 0 ≤ version
  pub some : 0 < version
  pub bound : version + left ≤ limit + 1

zero_there : (n r : ℕ) → get_or {A = ℕ} (replicate n 0) r 0 ≡ 0
zero_there zero r = refl
zero_there (suc n) zero = refl
zero_there (suc n) (suc r) = zero_there n r

pub none_asked : (now : Seen) (asked : List ℕ) (n limit : ℕ) → asked ≡ replicate n 0 → Asked now asked 1 limit limit
none_asked now asked n limit is =
    let zeros : (r : ℕ) → get_or asked r 0 ≡ 0 = λ r. ap (λ l. get_or l r 0) is ∙ zero_there n r in
    record {
      still = λ r e. absurd (omega (arith, zeros r, e));
      old = λ r. omega (arith, zeros r);
      some = omega arith;
      bound = omega arith;
    }

module _ (now : Seen) (asked : List ℕ) (version left limit : ℕ) (h : Asked now asked version left limit) where
  -- turns that came before
  pub asked_less : (k : ℕ) → Asked now asked version (left - k) limit
  asked_less k = record { still = h.still; old = h.old; some = h.some; bound = omega (arith, h.bound) }

  -- who was asked needs not be asked again
  pub asked_again : (role : ℕ) → get_or asked role 0 ≡ version → Advances now.program now.world role now.world false
  asked_again role e = (h.still role e, refl)

  module _ (after : Seen) (same : after.program ≡ now.program) (role : ℕ) where
    -- a role is found still
    pub asked_still : role < length asked → Advances now.program now.world role after.world false →
        Asked after (set asked role version) version left limit
    asked_still lt a = record {
      still = λ r e. here r e (eqb_tells r role);
      old = λ r. there r (eqb_tells r role);
      some = h.some;
      bound = h.bound;
    }
      where
        moved : (r : ℕ) → StillAt now.program now.world r → StillAt after.program after.world r
        moved r still =
            subst (λ (q : Program). StillAt q after.world r) (sym same) (subst (λ (w : World). StillAt now.program w r) (sym a.1) still)

        here : (r : ℕ) → get_or (set asked role version) r 0 ≡ version → ((r == role) ≡ true) × (r ≡ role) ⊎ ((r == role) ≡ false) ×
            (r ≢ role) → StillAt after.program after.world r
        here r e (inl is) = moved r (subst (StillAt now.program now.world) (sym is.1) a.0)
        here r e (inr other) = moved r (h.still r (sym (get_or-set_other asked role r version 0 other.1) ∙ e))

        there : (r : ℕ) → ((r == role) ≡ true) × (r ≡ role) ⊎ ((r == role) ≡ false) × (r ≢ role) → get_or (set asked role version) r 0
            ≤ version
        there r (inl is) =
            let e : get_or (set asked role version) r 0 ≡ version =
            ap (λ j. get_or (set asked role version) j 0) is.1 ∙ get_or-set_same asked role version 0 lt in omega (arith, e)
        there r (inr other) =
            let e : get_or (set asked role version) r 0 ≡ get_or asked r 0 = get_or-set_other asked role r version 0 other.1 in
            omega (arith, e, h.old r)

    -- turns that count: one may have moved a message, where the last event is of one, and several moved none
    module _ (next : ℕ) (new : get_or asked role 0 ≢ version) (more : 0 < left) where
      newer : next ≡ version + 1 → Asked after asked next (left - 1) limit
      newer e = record {
        still = λ r is. absurd (omega (arith, e, is, h.old r));
        old = λ r. omega (arith, e, h.old r);
        some = omega (arith, e);
        bound = omega (arith, e, h.bound, more);
      }

      as_new : next ≡ version → ((r : ℕ) → r ≢ role → StillAt now.program now.world r → StillAt now.program after.world r) →
          Asked after asked next (left - 1) limit
      as_new e beside = record {
        still = λ r is. subst (λ (q : Program). StillAt q after.world r) (sym same)
            (beside r (λ same_role. new (sym (ap (λ j. get_or asked j 0) same_role) ∙ is ∙ e)) (h.still r (is ∙ e)));
        old = λ r. omega (arith, e, h.old r);
        some = omega (arith, e, h.some);
        bound = omega (arith, e, h.bound);
      }

      beside_one : Advances now.program now.world role after.world true → LastMovesNone after.world.events → (r : ℕ) → r ≢ role →
          StillAt now.program now.world r → StillAt now.program after.world r
      beside_one a last r other still =
          subst (λ (v : World). StillAt now.program v r) (sym a.0)
          (turn_stays now.program now.world role r other still (subst (λ (v : World). LastMovesNone v.events) a.0 last))

      beside_several : (k : ℕ) → TurnsAlone now.program now.world role k after.world → (r : ℕ) → r ≢ role →
          StillAt now.program now.world r → StillAt now.program after.world r
      beside_several k t r other still =
          subst (λ (v : World). StillAt now.program v r) (sym t.is)
          (λ x at. still x (sym (set_there now.world.roles role r t.after other) ∙ at))

      pub asked_counted : (k : ℕ) (moved : Bool) → 0 < k → (next ≡ version + 1) ⊎ (next ≡ version) × ((k ≢ 1) ⊎ (moved ≡ false)) →
          OnFalse moved (LastMovesNone after.world.events) → Counts now.program now.world role k after.world →
          Asked after asked next (left - 1) limit
      asked_counted k moved some (inl e) told t = newer e
      asked_counted zero moved some (inr (e, why)) told t = absurd (omega (arith, some))
      asked_counted (suc zero) moved some (inr (e, inl several)) told t = absurd (several refl)
      asked_counted (suc zero) true some (inr (e, inr none)) told t = absurd (cc none)
      asked_counted (suc zero) false some (inr (e, inr none)) told t = as_new e (beside_one t told)
      asked_counted (suc (suc k)) moved some (inr (e, why)) told t = as_new e (beside_several (suc (suc k)) t)
