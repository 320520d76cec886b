-- How the roles of a world stand, one after another.
use Rattle.std.proofs.Common.{◌≡◌, ◌<◌, ◌≤◌, ◌+◌, ℕ, zero, suc, List, [], ◌∷◌, ◌++◌, length, map, take, get_or, Option, Some, None}
use Rattle.std.proofs.Common.{option_map, slice_get, IfSome, refl, sym, ap, ◌∙◌, subst, arith}
use Rattle.std.proofs.lemmas.List.{take_more, map-append}
use Rattle.std.proofs.lemmas.Option.{slice_get-map, slice_get-get_or, get_or_from_slice_get}
use Rattle.mg_text.specs.Call.{Name}
use Rattle.vm_model.specs.Program.{Program}
use Rattle.vm_model.specs.Messages.{or_nothing}
use Rattle.vm_world_law.specs.declared.role.RoleMain.{RoleMain}
use Rattle.vm_world_law.specs.declared.stand.Stand.{Stand}
use Rattle.vm_world_law.specs.declared.stand.Stand.TheVariants as stands
use Rattle.vm_world_law.specs.World.{State, Runs, Over, Role, World, waits, waits_at}
use Rattle.vm_world_law.specs.Turns.{stand_of, stands_from, waiting_for}
use Rattle.vm_world_law.proofs.Lists.{some_is, got_within}
use Rattle.vm_world_law.proofs.Peers.{waits_within}
use Rattle.vm_world.specs.declared.stand.RoleRan.{RoleRan}
use Rattle.vm_world.specs.View.{ending_in}
use Rattle.vm_world.specs.Standing.{stand_at, waiting_in}

module _ (p : Program) (w : World) (r : ℕ) where
  running_state : (role : Role) (state : State) → role.state ≡ state → None ≡ ending_in role →
      waiting_for w (waits_at p w r (Some role)) ≡ stand_of p w r state
  running_state role (Runs m) is h = ap (λ s. waiting_for w (waits_at p w r (Some (record { state = s; count = role.count })))) is
  running_state role (Over e) is h =
      absurd (let no : None ≡ Some e = h ∙ ap (λ s. ending_in (record { state = s; count = role.count })) is in cc)

  -- a role that hasn't
  running_stand : (o : Option Role) → Some None ≡ option_map ending_in o →
      Some (waiting_for w (waits_at p w r o)) ≡ option_map (λ role. stand_of p w r role.state) o
  running_stand None h = absurd (cc h)
  running_stand (Some role) h = ap (λ s. Some s) (running_state role role.state refl (some_is h))

  named_wait : (o : Option ℕ) → waiting_in w.messages.roles o ≡ waiting_for w o
  named_wait None = refl
  named_wait (Some peer) = refl

  pub running_is : (names : List Name) (o : Option ℕ) (s : Stand) → w.messages.roles ≡ names → o ≡ waits p w r →
      Some None ≡ option_map ending_in (slice_get w.roles r) → s ≡ waiting_in names o → Some s ≡ stand_at p w r
  running_is names o s same is h waiting =
      ap (λ x. Some x) (waiting ∙ ap (λ l. waiting_in l o) (sym same) ∙ named_wait o ∙ ap (waiting_for w) is) ∙
      running_stand (slice_get w.roles r) h

  -- whoever waits, waits for one of these roles
  pub peer_within : (mains : List RoleMain) (o : Option ℕ) → w.messages.roles ≡ map (λ m. m.role) mains → o ≡ waits p w r →
      IfSome o (λ k. k < length mains)
  peer_within mains None same is = tt
  peer_within mains (Some peer) same is =
      subst (λ n. peer < n) (ap length same ∙ many mains) (waits_within p w r peer (sym is))
    where
      many : (xs : List RoleMain) → length (map (λ m. m.role) xs) ≡ length xs
      many [] = refl
      many (x ∷ xs) = ap suc (many xs)

-- the name of a role of the list
pub name_there : (mains : List RoleMain) (k : ℕ) (main : RoleMain) → k < length mains → main ≡ get_or mains k main →
    or_nothing (slice_get (map (λ m. m.role) mains) k) ≡ main.role
name_there mains k main lt is =
    ap or_nothing (slice_get-map (λ (m : RoleMain). m.role) mains k
    ∙ ap (λ o. option_map (λ (m : RoleMain). m.role) o) (slice_get-get_or mains k main lt)
    ∙ ap (λ (x : RoleMain). Some x.role) (sym is))

module _ (p : Program) (w : World) where
  stands_more : (r : ℕ) (xs : List Role) (x : Role) → stands_from p w r (xs ++ x ∷ []) ≡ stands_from p w r xs
      ++ stand_of p w (r + length xs) x.state ∷ []
  stands_more r [] x = ap (λ k. stand_of p w k x.state ∷ []) (let e : r ≡ r + 0 = omega arith in e)
  stands_more r (y ∷ xs) x =
      ap (λ l. stand_of p w r y.state ∷ l) (stands_more (suc r) xs x
      ∙ ap (λ k. stands_from p w (suc r) xs ++ stand_of p w k x.state ∷ []) (let e : suc r + length xs ≡ r + suc (length xs) = omega arith
      in e))

  -- what is told of the first roles
  pub record RanSoFar (k : ℕ) (ran : List RoleRan) : Type 0 where
    pub counts : map (λ r. r.instructions) ran ≡ map (λ r. r.count) (take k w.roles)
    pub stands : map (λ r. r.stand) ran ≡ stands_from p w 0 (take k w.roles)

  taken_long : (k : ℕ) (xs : List Role) → k ≤ length xs → length (take k xs) ≡ k
  taken_long zero xs le = refl
  taken_long (suc k) [] le = absurd (omega (arith, le))
  taken_long (suc k) (x ∷ xs) le = ap suc (taken_long k xs (omega (arith, le)))

  -- one role more
  pub ran_more : (k : ℕ) (old new : List RoleRan) (ran : RoleRan) → new ≡ old ++ ran ∷ [] →
      Some ran.instructions ≡ option_map (λ r. r.count) (slice_get w.roles k) → Some ran.stand ≡ stand_at p w k → RanSoFar k old →
      RanSoFar (k + 1) new
  ran_more k old new ran grown count stand h = go (slice_get w.roles k) refl
    where
      none : slice_get w.roles k ≡ None → RanSoFar (k + 1) new
      none at = absurd (let no : Some ran.instructions ≡ None = count ∙ ap (option_map (λ r. r.count)) at in cc)

      go : (o : Option Role) → slice_get w.roles k ≡ o → RanSoFar (k + 1) new
      go None at = none at
      go (Some role) at =
          let lt : k < length w.roles = got_within w.roles k role at in
          let taken : take (k + 1) w.roles ≡ take k w.roles ++ role ∷ [] =
          take_more w.roles k role lt ∙ ap (λ (x : Role). take k w.roles ++ x ∷ []) (get_or_from_slice_get w.roles k role role at) in
          let same_count : ran.instructions ≡ role.count = some_is (count ∙ ap (option_map (λ (r : Role). r.count)) at) in
          let same_stand : ran.stand ≡ stand_of p w k role.state =
          some_is (stand ∙ ap (option_map (λ (r : Role). stand_of p w k r.state)) at) in
          let long : length (take k w.roles) ≡ k = taken_long k w.roles (omega (arith, lt)) in
          record {
            counts = ap (map (λ (r : RoleRan). r.instructions)) grown ∙ map-append (λ (r : RoleRan). r.instructions) old (ran ∷ [])
                ∙ ap (λ l. l ++ ran.instructions ∷ []) h.counts ∙ ap (λ n. map (λ (r : Role). r.count) (take k w.roles) ++ n ∷ [])
                same_count
                ∙ sym (map-append (λ (r : Role). r.count) (take k w.roles) (role ∷ [])) ∙ ap (map (λ (r : Role). r.count)) (sym taken);
            stands = ap (map (λ (r : RoleRan). r.stand)) grown ∙ map-append (λ (r : RoleRan). r.stand) old (ran ∷ [])
                ∙ ap (λ l. l ++ ran.stand ∷ []) h.stands ∙ ap (λ s. stands_from p w 0 (take k w.roles) ++ s ∷ []) same_stand
                ∙ ap (λ n. stands_from p w 0 (take k w.roles) ++ stand_of p w n role.state ∷ [])
                (let e : k ≡ 0 + length (take k w.roles) = omega (arith, long) in e)
                ∙ sym (stands_more 0 (take k w.roles) role) ∙ ap (stands_from p w 0) (sym taken);
          }
