-- Turns of which only is kept whether they counted an instruction.
use Rattle.std.proofs.Common.{◌≡◌, ℕ, suc, ◌+◌, ◌<◌, List, [], ◌∷◌, ◌++◌, length, map, set, get_or, Bool, true, false, Option, Some, None}
use Rattle.std.proofs.Common.{Result, Ok, Err, IfOk, OnErr, slice_get, append-nil, refl, sym, ap, ◌∙◌, subst, arith}
use Rattle.mg_text.specs.declared.event.Event.{Event}
use Rattle.mg_text.specs.declared.event.Ending.{Ending}
use Rattle.vm_model.specs.Program.{Program}
use Rattle.vm_model.specs.Messages.{Messages}
use Rattle.vm_model.specs.Machine.{Machine, Stepped, Went, Waits, Stops, noted}
use Rattle.vm_model.specs.Step.{step}
use Rattle.vm_world_law.specs.declared.role.RoleEvent.{RoleEvent}
use Rattle.vm_world_law.specs.declared.role.Turned.{Turned}
use Rattle.vm_world_law.specs.declared.role.Turned.TheVariants as answers
use Rattle.vm_world_law.specs.World as model
use Rattle.vm_world_law.specs.World.{State, Runs, Over, World, of_role, turn, turn_at, turned}
use Rattle.vm_world_law.specs.Turns.{Advances, StillAt, is_over, over_in, over_at}
use Rattle.vm_world_law.proofs.Lists.{some_is}
use Rattle.vm_world_law.proofs.Moments.{went, waited, ended_now}
use Rattle.vm_world.specs.declared.role.Role.{Role}
use Rattle.vm_world.specs.Outcome.{Outcome, outcome, outcome_of, IsCounted, is_counted, told_by}
use Rattle.vm_world.specs.View.{role_of, roles_of}
use Rattle.vm_flat.specs.declared.program.FlatProgram.{FlatProgram}
use Rattle.vm_world.specs.Seen.{Seen}
use Rattle.vm_world.proofs.Typed.{IsKept, kept_turned, kept_same}
use Rattle.vm_world.proofs.Alone.{running}
use Rattle.vm_world.proofs.Turning.{turned_world, turned_answer, role_there}

module _ (p : Program) (me : ℕ) (m : Machine) (count more : ℕ) (q r : Messages) (es fs : List RoleEvent) where
  pub waits_counted : (n : Machine) (peer : ℕ) → step p me m q ≡ Waits peer → n ≡ m → r ≡ q → fs ≡ es →
      IsCounted p me (running m count) (running n count) q r es fs false
  waits_counted n peer steps same messages events = record {
    event = None;
    turned = answers.Waits peer;
    outcome_is = ap (λ k. one k r) same ∙ ap (one m) messages ∙ ap (outcome_of count m q) (sym steps);
    events_are = events;
    counted_is = refl;
  }
    where
      one : Machine → Messages → Outcome
      one k x = record { role = running k count; messages = x; event = None; turned = answers.Waits peer }

  pub ended_counted : (ending : Ending) → step p me m q ≡ Stops ending → more ≡ count + 1 → r ≡ q → fs ≡ es →
      IsCounted p me (running m count) (record { state = Over ending; count = more }) q r es fs true
  ended_counted ending steps is messages events = record {
    event = None;
    turned = answers.Ended ending;
    outcome_is = ap (λ k. one k r) (let e : more ≡ suc count = omega (arith, is) in e) ∙ ap (one (suc count)) messages
        ∙ ap (outcome_of count m q) (sym steps);
    events_are = events;
    counted_is = refl;
  }
    where
      one : ℕ → Messages → Outcome
      one k x = record { role = record { state = Over ending; count = k }; messages = x; event = None; turned = answers.Ended ending }

told_is : (me : ℕ) (es : List RoleEvent) (event : Option Event) → told_by me es event ≡ es ++ map (of_role me) (noted event)
told_is me es None = sym (append-nil es)
told_is me es (Some event) = refl

-- a role that hasn't ended
pub runs_there : (roles : List Role) (i : ℕ) (old : Role) → i < length roles → old ≡ get_or roles i old → (seen : Seen) →
    roles_of roles ≡ seen.world.roles → over_in seen.world i ≡ false → is_over (role_of old).state ≡ false
runs_there roles i old lt is seen same runs = sym (ap over_at (ap (λ l. slice_get l i) (sym same) ∙ role_there roles i old lt is)) ∙ runs

-- The turn advances the world.
module _ (p : Program) (w : World) (i : ℕ) (role : model.Role) (at : slice_get w.roles i ≡ Some role) where
  running_is : (m : Machine) → role.state ≡ Runs m → over_in w i ≡ false
  running_is m is = ap over_at at ∙ ap is_over is

  over_still : (ending : Ending) → role.state ≡ Over ending → StillAt p w i
  over_still ending is other there =
      let same : role ≡ other = some_is (sym at ∙ there) in
      subst (λ (s : State). Rattle.vm_world_law.specs.World.IsStill p w i s) (sym is ∙ ap (λ (x : model.Role). x.state) same) tt

  over_turn : (ending : Ending) → role.state ≡ Over ending → turn p w i ≡ w
  over_turn ending is = ap (turn_at p w i) at ∙ ap (Rattle.vm_world_law.specs.World.turn_in p w i role.count) is

  pub advances_by : (state : State) → role.state ≡ state → (t : Turned) → Some t ≡ turned p w i → Advances p w i (turn p w i)
      (is_counted state t)
  advances_by (Over ending) is t answer = (over_still ending is, over_turn ending is)
  advances_by (Runs m) is answers.Went answer = went p w i answer
  advances_by (Runs m) is (answers.Waits peer) answer = waited p w i peer answer
  advances_by (Runs m) is (answers.Ended ending) answer = ended_now p w i ending (running_is m is) answer

pub counted_advances : (roles : List Role) (i : ℕ) (old : Role) → i < length roles → old ≡ get_or roles i old → (p : Program)
    (q r : Messages) (es fs : List RoleEvent) (new : Role) (counted : Bool) →
    IsCounted p i (role_of old) (role_of new) q r es fs counted →
    Advances p (record { roles = roles_of roles; messages = q; events = es }) i
    (record { roles = roles_of (set roles i new); messages = r; events = fs }) counted
counted_advances roles i old lt is p q r es fs new counted h =
    let w : World = record { roles = roles_of roles; messages = q; events = es } in
    let later : List RoleEvent → World = λ l. record { roles = roles_of (set roles i new); messages = r; events = l } in
    let made : later fs ≡ turn p w i =
    ap later (h.events_are ∙ told_is i es h.event) ∙ turned_world roles i old lt is p q r es new h.event h.turned h.outcome_is in
    subst (Advances p w i (later fs)) (sym h.counted_is)
    (subst (λ (v : World). Advances p w i v (is_counted (role_of old).state h.turned)) (sym made)
    (advances_by p w i (role_of old) (role_there roles i old lt is) (role_of old).state refl h.turned
    (turned_answer roles i old lt is p q r es new h.event h.turned h.outcome_is)))

-- where it was taken
pub counted_ok : {E : Type 0} (roles : List Role) (i : ℕ) (old : Role) → i < length roles → old ≡ get_or roles i old → (p : Program)
    (q r : Messages) (es events fs : List RoleEvent) (new : Role) (seen : Seen) (o : Result Bool E) → es ≡ events →
    ◌≡◌ {A = Seen} (record { program = p; world = record { roles = roles_of roles; messages = q; events = events } }) seen →
    IfOk o (λ counted. IsCounted p i (role_of old) (role_of new) q r es fs counted) →
    IfOk o (λ counted. Advances seen.program seen.world i
    (record { roles = roles_of (set roles i new); messages = r; events = fs }) counted)
counted_ok roles i old lt is p q r es events fs new seen (Ok counted) same view h =
    subst (λ (s : Seen). Advances s.program s.world i (record { roles = roles_of (set roles i new); messages = r; events = fs }) counted)
    view
    (counted_advances roles i old lt is p q r events fs new counted
    (subst (λ (l : List RoleEvent). IsCounted p i (role_of old) (role_of new) q r l fs counted) same h))
counted_ok roles i old lt is p q r es events fs new seen (Err e) same view h = tt

-- what is kept, whether it was taken or not
pub kept_counted : {E : Type 0} (p : Program) (roles : List Role) (i : ℕ) (old : Role) → i < length roles → old ≡ get_or roles i old →
    (new : Role) (flat : Option FlatProgram) (q r : Messages) (es fs : List RoleEvent) (o : Result Bool E) →
    IfOk o (λ counted. IsCounted p i (role_of old) (role_of new) q r es fs counted) → OnErr o (role_of new ≡ role_of old) →
    IsKept p roles flat → IsKept p (set roles i new) flat
kept_counted p roles i old lt is new flat q r es fs (Ok counted) h k kept =
    kept_turned p roles i old lt is new flat q r h.event h.turned h.outcome_is kept
kept_counted p roles i old lt is new flat q r es fs (Err e) h k kept = kept_same p roles i old lt is new flat k kept
