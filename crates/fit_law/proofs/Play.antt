-- Sources that play a global protocol do so by one object a role.
use Rattle.std.proofs.Common.{◌≡◌, ◌≢◌, ◌⊎◌, inl, inr, ⊎_elim, ℕ, zero, suc, Bool, true, false, true≢false, List, [], ◌∷◌, ◌++◌, Some}
use Rattle.std.proofs.Common.{refl, sym, ap, ◌∙◌, subst}
use Rattle.std.specs.Prelude.{Contains, slice_get}
use Rattle.std.specs.List.{list_any}
use Rattle.mg_text.specs.Call.{Name}
use Rattle.mg_text.specs.declared.event.Ending.{Ending}
use Rattle.mg_text.specs.declared.event.Ending.TheVariants as endings
use Rattle.scr_tree.specs.Meaning.{protocol_of}
use Rattle.scr_tree.specs.Tree.{LocalTree}
use Rattle.scr_global.specs.Global.{Global}
use Rattle.ts_tree.specs.Typestate.{Typestate}
use Rattle.jv_values.specs.Values.{Inputs}
use Rattle.jv_meaning.specs.Meaning.{mean}
use Rattle.jv_meaning.specs.Program.{Sources}
use Rattle.stm_acts.specs.Played.{HasRole}
use Rattle.stm_acts.proofs.Bodies.{contained}
use Rattle.stm_acts.proofs.Steps.{within_left}
use Rattle.stm_acts.proofs.Valid.{there, parted}
use Rattle.vm_world_law.specs.declared.role.RoleMain.{RoleMain}
use Rattle.stm_acts.specs.Ends.{HasRoles, IsDoneByOne}
use Rattle.stm_acts.proofs.InCalls.{plays_alone}
use Rattle.vm_world_law.specs.Turns.{first_turns, counted, is_bound, stands_in}
use Rattle.vm_world_law.specs.World.{State, Runs, Over, Role, World, Rests}
use Rattle.vm_world_law.proofs.Turns.{rest_is_no_bound}
use Rattle.fit_law.specs.Fit.{IsCast}
use Rattle.fit_law.proofs.Fit.{none_gets_stuck, rest_is_finished, rest_is_conversation, turns_are_configurations, turns_are_in_conversation}
use Rattle.fit_law.proofs.Fit.{turns_go_on_in_conversation, turns_are_of_one}
use Rattle.fit_law.specs.Play.{PlayIn, AllKeep, HasEndedWell, NoneGetsStuckIn, ZeroIn, RunsEndWell, TurnsAreReached, TurnsConverse}
use Rattle.fit_law.specs.Play.{TurnsGoOn, TurnsActByOne}

some_is : {A : Type 0} {a b : A} → Some a ≡ Some b → a ≡ b
some_is e = cc

module _ (j : Sources) (typestates : List Typestate) (roles : List Name) (g : Global) (locals : Name → LocalTree)
    (mains : List RoleMain) (play : PlayIn j typestates roles g locals mains) (keeps : AllKeep j typestates mains) where
  all_had : HasRoles j typestates (roles ++ play.idle) (λ you. protocol_of (locals you))
  all_had you i = ⊎_elim
      (λ w.
      let l : Contains roles you = there roles you w in
      subst (λ n. HasRole j typestates n (protocol_of (locals you))) (play.locals_are.own you l) (play.had you l).role)
      (λ w. play.idle_had you (there play.idle you w))
      (parted roles play.idle (contained (roles ++ play.idle) you i))

  one_object : (r : ℕ) (main : RoleMain) → slice_get mains r ≡ Some main → (inputs : Inputs) (budget : ℕ) →
      IsDoneByOne j (roles ++ play.idle) (locals main.role).me (protocol_of (locals main.role)) inputs (mean j main.class inputs budget)
  one_object r main at inputs budget =
      let l : Contains roles main.role = play.known r main at in
      let among : Contains (roles ++ play.idle) main.role =
      there (roles ++ play.idle) main.role (within_left roles play.idle (contained roles main.role l)) in
      subst (λ n. IsDoneByOne j (roles ++ play.idle) n (protocol_of (locals main.role)) inputs (mean j main.class inputs budget))
      (sym (play.locals_are.own main.role l))
      (plays_alone j typestates (roles ++ play.idle) (λ you. protocol_of (locals you)) all_had play.quiet main.role among main.class
      (play.makes r main at) inputs budget)

  is_cast : IsCast j typestates roles g locals mains
  is_cast = record {
    locals_are = play.locals_are;
    had = play.had;
    played = play.played;
    known = play.known;
    idle = play.idle;
    by_one = one_object;
    keeps = keeps;
  }

pub none_gets_stuck_in : NoneGetsStuckIn
none_gets_stuck_in j typestates roles g locals mains play keeps p first begun meant taken =
    let cast = is_cast j typestates roles g locals mains play keeps in
    let law = none_gets_stuck j typestates roles g locals mains cast p first begun meant taken in (
      law.0,
      λ rests no_zero. record {
        complete = law.1 rests no_zero;
        runs = rest_is_finished j typestates roles g locals mains cast p first begun meant taken rests no_zero;
        conversation = rest_is_conversation j typestates roles g locals mains cast play.guarded p first begun meant taken rests no_zero;
      },
    )

-- ---- runs

data Zeros (rs : List Role) : Type 0 where
  some_zero : (i : ℕ) (x : Role) → slice_get rs i ≡ Some x → x.state ≡ Over endings.Zero → Zeros rs
  no_zero : ((i : ℕ) (x : Role) → slice_get rs i ≡ Some x → x.state ≡ Over endings.Zero → ⊥) → Zeros rs

zero_or_not : (s : State) → (s ≡ Over endings.Zero) ⊎ (s ≡ Over endings.Zero → ⊥)
zero_or_not (Runs m) = inr (λ e. absurd (cc e))
zero_or_not (Over endings.Zero) = inl refl
zero_or_not (Over endings.Done) = inr (λ e. not_zero endings.Done (λ f. absurd (cc f)) e)
  where
    not_zero : (x : Ending) → (x ≡ endings.Zero → ⊥) → Over x ≡ Over endings.Zero → ⊥
    not_zero x n e = n (let f : x ≡ endings.Zero = cc in f)
zero_or_not (Over endings.Null) = inr (λ e. absurd (cc e))
zero_or_not (Over (endings.Mismatch q f)) = inr (λ e. absurd (cc e))
zero_or_not (Over (endings.NoPeer q)) = inr (λ e. absurd (cc e))
zero_or_not (Over (endings.Bad _)) = inr (λ e. absurd (cc e))

zeros : (rs : List Role) → Zeros rs
zeros [] = no_zero (λ i x at e. absurd (cc at))
zeros (y ∷ rs) = go (zero_or_not y.state) (zeros rs)
  where
    go : (y.state ≡ Over endings.Zero) ⊎ (y.state ≡ Over endings.Zero → ⊥) → Zeros rs → Zeros (y ∷ rs)
    go (inl e) more = some_zero 0 y refl e
    go (inr n) (some_zero i x at e) = some_zero (suc i) x at e
    go (inr n) (no_zero h) = no_zero (λ i x at e. at_each i x at e)
      where
        at_each : (i : ℕ) (x : Role) → slice_get (y ∷ rs) i ≡ Some x → x.state ≡ Over endings.Zero → ⊥
        at_each zero x at e = n (ap (λ (z : Role). z.state) (some_is at) ∙ e)
        at_each (suc i) x at e = h i x at e

pub runs_end_well : RunsEndWell
runs_end_well j typestates roles g locals mains play keeps p first begun meant order limit last run =
    ⊎_elim
    (λ rests. at_rest rests (zeros last.roles))
    (λ full. at_limit full (list_any is_bound (stands_in p last)) refl) run.stops
  where
    at_rest : Rests p last → Zeros last.roles →
        HasEndedWell j roles g locals mains last ⊎ (ZeroIn last ⊎ ((Rests p last → ⊥) × (counted last ≡ limit)))
    at_rest rests (some_zero i x at e) = inr (inl (record { number = i; role = x; there = at; zero = e }))
    at_rest rests (no_zero h) =
        inl (subst (λ (w : World). HasEndedWell j roles g locals mains w) (sym run.is)
        ((none_gets_stuck_in j typestates roles g locals mains play keeps p first begun meant (first_turns order run.taken)).1
        (subst (Rests p) run.is rests)
        (λ r x at. subst (λ (w : World). slice_get w.roles r ≡ Some x → x.state ≢ Over endings.Zero) run.is (λ at e. h r x at e) at)))

    at_limit : counted last ≡ limit → (b : Bool) → list_any is_bound (stands_in p last) ≡ b →
        HasEndedWell j roles g locals mains last ⊎ (ZeroIn last ⊎ ((Rests p last → ⊥) × (counted last ≡ limit)))
    at_limit full true e = inr (inr ((λ rests. true≢false (sym e ∙ (rest_is_no_bound p last).0 rests)), full))
    at_limit full false e = at_rest ((rest_is_no_bound p last).1 e) (zeros last.roles)

pub turns_converse : TurnsConverse
turns_converse j typestates roles g locals mains play keeps can p first begun meant taken =
    turns_are_in_conversation j typestates roles g locals mains (is_cast j typestates roles g locals mains play keeps) can p first begun
    meant taken

pub turns_are_reached : TurnsAreReached
turns_are_reached j typestates roles g locals mains play keeps p first begun meant taken =
    turns_are_configurations j typestates roles g locals mains (is_cast j typestates roles g locals mains play keeps) p first begun
    meant taken

pub turns_go_on : TurnsGoOn
turns_go_on j typestates roles g locals mains play keeps heard p first begun meant taken =
    turns_go_on_in_conversation j typestates roles g locals mains (is_cast j typestates roles g locals mains play keeps) heard p first begun
    meant taken

pub turns_act_by_one : TurnsActByOne
turns_act_by_one j typestates roles g locals mains play keeps p first begun meant taken =
    turns_are_of_one j typestates roles g locals mains (is_cast j typestates roles g locals mains play keeps) p first begun meant taken
