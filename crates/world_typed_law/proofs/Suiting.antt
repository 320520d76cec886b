-- Each role of a world fits its typings, or has ended, and not badly.
use Rattle.std.proofs.Common.{◌≡◌, ℕ, zero, suc, ◌⊎◌, inl, inr, List, [], ◌∷◌, Option, Some, None, refl, sym, ap, subst, ◌∙◌}
use Rattle.std.specs.Prelude.{slice_get, slice_set}
use Rattle.vm_model.specs.Program.{Program}
use Rattle.vm_model.specs.Machine.{Stepped, Went, Waits, Stops}
use Rattle.vm_model.specs.Step.{step}
use Rattle.cls_verify.specs.Sound.{Sound, IsNotBad, IsWell}
use Rattle.cls_verify.specs.Typing.{AllTypable}
use Rattle.cls_verify.proofs.Whole.{step_is_well, start_is_sound}
use Rattle.vm_world_law.specs.declared.role.RoleMain.{RoleMain}
use Rattle.vm_world_law.specs.World.{State, Runs, Over, Role, World, StartAt, IsBegun, stepped, turn_in, turn_at, turn, turns}
use Rattle.world_typed_law.specs.Worlds.{TypableWorldsNeverBad}

abbrev StateSuits : Program → State → Type 0
StateSuits p (Runs m) = Sound p m
StateSuits p (Over ending) = IsNotBad ending

record WorldSuits (p : Program) (w : World) : Type 0 where
  roles : (r : ℕ) (role : Role) → slice_get w.roles r ≡ Some role → StateSuits p role.state

-- what stands in a list in which one role is another: that one, or what stood there
set_or_same : (xs : List Role) (r i : ℕ) (a role : Role) → slice_get (slice_set xs r a) i ≡ Some role →
    (a ≡ role) ⊎ (slice_get xs i ≡ Some role)
set_or_same [] r i a role e = inr e
set_or_same (x ∷ xs) zero zero a role e = inl (cc e)
set_or_same (x ∷ xs) zero (suc i) a role e = inr e
set_or_same (x ∷ xs) (suc r) zero a role e = inr e
set_or_same (x ∷ xs) (suc r) (suc i) a role e = set_or_same xs r i a role e

module _ (p : Program) (all : AllTypable p) where
  with_role : (w v : World) (r : ℕ) (new : Role) → v.roles ≡ slice_set w.roles r new → StateSuits p new.state → WorldSuits p w →
      WorldSuits p v
  with_role w v r new e h s = record {
    roles = λ i role g. by i role (set_or_same w.roles r i new role (sym (ap (λ rs. slice_get rs i) e) ∙ g));
  }
    where
      by : (i : ℕ) (role : Role) → (new ≡ role) ⊎ (slice_get w.roles i ≡ Some role) → StateSuits p role.state
      by i role (inl same) = subst (λ (x : Role). StateSuits p x.state) same h
      by i role (inr g) = s.roles i role g

  stepped_suits : (w : World) (r count : ℕ) (to : Stepped) → IsWell p to → WorldSuits p w → WorldSuits p (stepped w r count to)
  stepped_suits w r count (Went m q e) h s =
      with_role w (stepped w r count (Went m q e)) r (record { state = Runs m; count = suc count }) refl h s
  stepped_suits w r count (Waits peer) h s = s
  stepped_suits w r count (Stops ending) h s =
      with_role w (stepped w r count (Stops ending)) r (record { state = Over ending; count = suc count }) refl h s

  turn_suits : (w : World) (r : ℕ) → WorldSuits p w → WorldSuits p (turn p w r)
  turn_suits w r s = go (slice_get w.roles r) refl
    where
      in_state : (count : ℕ) (state : State) → StateSuits p state → WorldSuits p (turn_in p w r count state)
      in_state count (Runs m) h = stepped_suits w r count (step p r m w.messages) (step_is_well p all w.messages r m h) s
      in_state count (Over ending) h = s

      go : (o : Option Role) → slice_get w.roles r ≡ o → WorldSuits p (turn_at p w r o)
      go None e = s
      go (Some role) e = in_state role.count role.state (s.roles r role e)

  turns_suit : (picks : List ℕ) (w : World) → WorldSuits p w → WorldSuits p (turns p w picks)
  turns_suit [] w s = s
  turns_suit (r ∷ picks) w s = turns_suit picks (turn p w r) (turn_suits w r s)

  starts_suit : (mains : List RoleMain) (roles : List Role) → StartAt p mains roles → (r : ℕ) (role : Role) →
      slice_get roles r ≡ Some role → StateSuits p role.state
  starts_suit [] [] s r role e = absurd (cc e)
  starts_suit [] (x ∷ roles) s r role e = absurd s
  starts_suit (main ∷ mains) [] s r role e = absurd s
  starts_suit (main ∷ mains) (x ∷ roles) s zero role e =
      let (m, start, is) = s.0 in
      let same : x ≡ role = cc e in
      subst (λ (y : Role). StateSuits p y.state) (sym is ∙ same) (start_is_sound p all main.class m start)
  starts_suit (main ∷ mains) (x ∷ roles) s (suc r) role e = starts_suit mains roles s.1 r role e

  begun_suits : (mains : List RoleMain) (w : World) → IsBegun p mains w → WorldSuits p w
  begun_suits mains w b = record { roles = starts_suit mains w.roles b.roles }

pub worlds_never_bad : TypableWorldsNeverBad
worlds_never_bad p all mains first begun picks r role at kind bad =
    subst (StateSuits p) bad ((turns_suit p all picks first (begun_suits p all mains first begun)).roles r role at)
