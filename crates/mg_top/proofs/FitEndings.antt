-- With which status a run of roles that fit ends.
use Rattle.std.proofs.Common.{◌≡◌, ◌⊎◌, inl, inr, ℕ, zero, suc, List, [], ◌∷◌, Bool, true, false, Some, slice_get}
use Rattle.std.proofs.Common.{◌||◌, refl, ap, ◌∙◌}
use Rattle.std.specs.Prelude.{◌≢◌}
use Rattle.std.specs.List.{list_any}
use Rattle.mg_text.specs.declared.event.Ending.TheVariants as endings
use Rattle.vm_model.specs.Program.{Program}
use Rattle.vm_world_law.specs.declared.stand.Stand.{Stand}
use Rattle.vm_world_law.specs.World.{Over, Role, World, Rests}
use Rattle.vm_world_law.specs.Turns.{stand_of, stands_from, stands_in, is_bound, is_broken, is_zero, is_mismatch, is_waiting}
use Rattle.vm_world_law.proofs.Lists.{some_is}
use Rattle.vm_world_law.proofs.Turns.{rest_is_no_bound}
use Rattle.mg_delivery.specs.declared.status.Status.{Status}
use Rattle.mg_delivery.specs.declared.status.Status.TheVariants as statuses
use Rattle.mg_top.specs.Statuses.{status_of}
use Rattle.mg_top.proofs.CommandLemmas.{by_tests}

-- a status of neither kind
abbrev pub IsFree : Status → Type 0
IsFree status = (status ≢ statuses.Mismatch) × (status ≢ statuses.Waits)

-- ---- by the answers of the tests

bound_free : (b k z m w : Bool) → b ≡ true → IsFree (by_tests b k z m w)
bound_free true k z m w is = (λ e. cc, λ e. cc)
bound_free false k z m w is = absurd (cc is)

zero_free : (b k z m w : Bool) → z ≡ true → IsFree (by_tests b k z m w)
zero_free true k z m w is = (λ e. cc, λ e. cc)
zero_free false true z m w is = (λ e. cc, λ e. cc)
zero_free false false true m w is = (λ e. cc, λ e. cc)
zero_free false false false m w is = absurd (cc is)

calm_free : (b k z m w : Bool) → m ≡ false → w ≡ false → IsFree (by_tests b k z m w)
calm_free true k z m w e f = (λ h. cc, λ h. cc)
calm_free false true z m w e f = (λ h. cc, λ h. cc)
calm_free false false true m w e f = (λ h. cc, λ h. cc)
calm_free false false false true w e f = absurd (cc e)
calm_free false false false false true e f = absurd (cc f)
calm_free false false false false false e f = (λ h. cc, λ h. cc)

-- ---- by how roles stand

is_true : (b : Bool) → (b ≡ false → ⊥) → b ≡ true
is_true true h = refl
is_true false h = absurd (h refl)

behind : (a b : Bool) → b ≡ true → (a || b) ≡ true
behind true b h = refl
behind false b h = h

module _ (p : Program) (w : World) where
  -- where all have returned, no test that a return fails holds of one
  none_of : (test : Stand → Bool) → ((r : ℕ) → test (stand_of p w r (Over endings.Done)) ≡ false) → (r : ℕ) (roles : List Role) →
      ((i : ℕ) (role : Role) → slice_get roles i ≡ Some role → role.state ≡ Over endings.Done) →
      list_any test (stands_from p w r roles) ≡ false
  none_of test fails r [] all = refl
  none_of test fails r (role ∷ roles) all =
      ap (λ state. test (stand_of p w r state) || list_any test (stands_from p w (suc r) roles)) (all 0 role refl)
      ∙ ap (λ b. b || list_any test (stands_from p w (suc r) roles)) (fails r)
      ∙ none_of test fails (suc r) roles (λ i other at. all (suc i) other at)

  -- where one has ended by a zero divisor, the test for that holds
  some_zero : (r : ℕ) (roles : List Role) (i : ℕ) (role : Role) → slice_get roles i ≡ Some role → role.state ≡ Over endings.Zero →
      list_any is_zero (stands_from p w r roles) ≡ true
  some_zero r [] i role at is = absurd (cc at)
  some_zero r (first ∷ roles) zero role at is =
      let e : first.state ≡ Over endings.Zero = ap (λ (x : Role). x.state) (some_is at) ∙ is in
      ap (λ state. is_zero (stand_of p w r state) || list_any is_zero (stands_from p w (suc r) roles)) e
  some_zero r (first ∷ roles) (suc i) role at is =
      behind (is_zero (stand_of p w r first.state)) (list_any is_zero (stands_from p w (suc r) roles))
      (some_zero (suc r) roles i role at is)

  -- The three ways in which a run of roles that fit ends: all have returned, one has ended by a zero divisor, or one could go on.
  pub ends_free : {Complete Zeroed Reached : Type 0} → Complete ⊎ (Zeroed ⊎ ((Rests p w → ⊥) × Reached)) →
      (Complete → (r : ℕ) (role : Role) → slice_get w.roles r ≡ Some role → role.state ≡ Over endings.Done) →
      (Zeroed → (r : ℕ) × (role : Role) × (slice_get w.roles r ≡ Some role) × (role.state ≡ Over endings.Zero)) →
      IsFree (status_of (stands_in p w))
  ends_free (inl complete) returned zeroed = calm_free (list_any is_bound (stands_in p w)) (list_any is_broken (stands_in p w))
      (list_any is_zero (stands_in p w)) (list_any is_mismatch (stands_in p w)) (list_any is_waiting (stands_in p w))
      (none_of is_mismatch (λ r. refl) 0 w.roles (returned complete)) (none_of is_waiting (λ r. refl) 0 w.roles (returned complete))
  ends_free (inr (inl zero_in)) returned zeroed = zero_free (list_any is_bound (stands_in p w)) (list_any is_broken (stands_in p w))
      (list_any is_zero (stands_in p w)) (list_any is_mismatch (stands_in p w)) (list_any is_waiting (stands_in p w))
      (let z = zeroed zero_in in some_zero 0 w.roles z.0 z.1 z.2 z.3)
  ends_free (inr (inr goes)) returned zeroed = bound_free (list_any is_bound (stands_in p w)) (list_any is_broken (stands_in p w))
      (list_any is_zero (stands_in p w)) (list_any is_mismatch (stands_in p w)) (list_any is_waiting (stands_in p w))
      (is_true (list_any is_bound (stands_in p w)) (λ e. goes.0 ((rest_is_no_bound p w).1 e)))
