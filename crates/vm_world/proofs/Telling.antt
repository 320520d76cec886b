-- A turn that tells of no message moves none, so the roles beside it stand as they stood.
use Rattle.std.proofs.Common.{◌≡◌, ◌≢◌, ◌-◌, ℕ, suc, Bool, true, false, List, [], ◌∷◌, ◌++◌, length, map, Option, Some, None, option_map, slice_get}
use Rattle.std.proofs.Common.{slice_set, refl, sym, ap, ◌∙◌, subst, arith, length-append}
use Rattle.std.specs.Bool.{OnFalse}
use Rattle.mg_text.specs.declared.event.Event.{Event}
use Rattle.vm_model.specs.Program.{Program}
use Rattle.vm_model.specs.Messages.{Messages}
use Rattle.vm_model.specs.Machine.{Stepped, Went, Waits, Stops, noted}
use Rattle.vm_model.specs.Step.{step}
use Rattle.vm_world_law.specs.declared.role.RoleEvent.{RoleEvent}
use Rattle.vm_world_law.specs.World.{State, Runs, Over, Role, World, IsStill, of_role, turn, turn_at, turn_in, stepped}
use Rattle.vm_world_law.specs.Turns.{StillAt}
use Rattle.vm_world_law.proofs.Lists.{some_is, set_there}
use Rattle.vm_world_law.proofs.Moves.{Moves, MovesTo, stays, sends, takes, step_moves}
use Rattle.mg_text.specs.declared.event.Event.TheVariants as seen
use Rattle.vm_events.specs.declared.kind.Kind.{Kind}
use Rattle.vm_events.specs.Seen.{kind_of}
use Rattle.vm_world.specs.Telling.{MovesNone, KindMovesNone, LastMovesNone}
use Rattle.vm_world.proofs.Alone.{running}

-- The last of some events.

end_is : {A : Type 0} (before : List A) (x : A) → slice_get (before ++ x ∷ []) (length before) ≡ Some x
end_is [] x = refl
end_is (y ∷ before) x = end_is before x

last_is : {A : Type 0} (xs before : List A) (x : A) → xs ≡ before ++ x ∷ [] → slice_get xs (length xs - 1) ≡ Some x
last_is xs before x is =
    ap (λ l. slice_get l (length l - 1)) is
    ∙ ap (slice_get (before ++ x ∷ []))
    (let e : length (before ++ x ∷ []) - 1 ≡ length before = omega (arith, length-append before (x ∷ [])) in e)
    ∙ end_is before x

pub last_tells : (events : List RoleEvent) (last : RoleEvent) (moved : Bool) → slice_get events (length events - 1) ≡ Some last →
    OnFalse moved (MovesNone last.event) → OnFalse moved (LastMovesNone events)
last_tells events last true at h = tt
last_tells events last false at h = λ before x is.
    subst (λ (e : RoleEvent). MovesNone e.event) (some_is (sym at ∙ last_is events before x is)) h

by_kind : (e : Event) → KindMovesNone (kind_of e) → MovesNone e
by_kind (seen.Print text) h = tt
by_kind (seen.Made object class) h = tt
by_kind (seen.Enter object method) h = tt
by_kind (seen.Leave object answer) h = tt
by_kind (seen.Send peer label payload) h = h
by_kind (seen.Look peer label) h = tt
by_kind (seen.Take peer label payload) h = h

-- by the kind of the last
pub kind_tells : (events : List RoleEvent) (kind : Kind) (moved : Bool) →
    Some kind ≡ option_map (λ (e : RoleEvent). kind_of e.event) (slice_get events (length events - 1)) →
    OnFalse moved (KindMovesNone kind) → OnFalse moved (LastMovesNone events)
kind_tells events kind true is h = tt
kind_tells events kind false is h = go (slice_get events (length events - 1)) refl
  where
    go : (o : Option RoleEvent) → slice_get events (length events - 1) ≡ o → LastMovesNone events
    go None at = absurd (let e : Some kind ≡ None = is ∙ ap (option_map (λ (x : RoleEvent). kind_of x.event)) at in cc)
    go (Some last) at =
        let same : kind ≡ kind_of last.event = some_is (is ∙ ap (option_map (λ (x : RoleEvent). kind_of x.event)) at) in
        last_tells events last false at (by_kind last.event (subst KindMovesNone same h))

pub none_tells : (events : List RoleEvent) → slice_get events (length events - 1) ≡ None → LastMovesNone events
none_tells events at = λ before x is. absurd (let e : None ≡ Some x = sym at ∙ last_is events before x is in cc)

-- What a turn told.

abbrev NoneMoves : Option Event → Type 0
NoneMoves None = Unit {0}
NoneMoves (Some event) = MovesNone event

same_messages : (me : ℕ) (q q' : Messages) (e : Option Event) → Moves me q e q' → NoneMoves e → q' ≡ q
same_messages me q _ e (stays still) h = refl
same_messages me q _ _ (sends to peer message named) h = absurd h
same_messages me q _ _ (takes from peer message rest named way) h = absurd h

module _ (p : Program) (w : World) (r : ℕ) where
  told : (e : Option Event) → LastMovesNone (w.events ++ map (of_role r) (noted e)) → NoneMoves e
  told None last = tt
  told (Some event) last = last w.events (of_role r event) refl

  module _ (other : ℕ) (apart : other ≢ r) (still : StillAt p w other) where
    beside : (role : Role) (q : Messages) (events : List RoleEvent) → q ≡ w.messages →
        StillAt p (record { roles = slice_set w.roles r role; messages = q; events = events }) other
    beside role q events same x at = by_state x.state (still x (sym (set_there w.roles r other role apart) ∙ at))
      where
        by_state : (s : State) → IsStill p w other s →
            IsStill p (record { roles = slice_set w.roles r role; messages = q; events = events }) other s
        by_state (Runs m) h = (h.0, ap (step p other m) same ∙ h.1)
        by_state (Over ending) h = tt

    by_step : (count : ℕ) (out : Stepped) → MovesTo r w.messages out → LastMovesNone (stepped w r count out).events →
        StillAt p (stepped w r count out) other
    by_step count (Went n q e) moves last =
        beside (running n (suc count)) q (w.events ++ map (of_role r) (noted e))
        (same_messages r w.messages q e moves (told e last))
    by_step count (Waits peer) moves last = still
    by_step count (Stops ending) moves last = beside (record { state = Over ending; count = suc count }) w.messages w.events refl

    by_state : (count : ℕ) (s : State) → LastMovesNone (turn_in p w r count s).events → StillAt p (turn_in p w r count s) other
    by_state count (Runs m) last = by_step count (step p r m w.messages) (step_moves r w.messages p m) last
    by_state count (Over ending) last = still

    at_role : (o : Option Role) → LastMovesNone (turn_at p w r o).events → StillAt p (turn_at p w r o) other
    at_role None last = still
    at_role (Some role) last = by_state role.count role.state last

    -- who was still beside it is
    pub turn_stays : LastMovesNone (turn p w r).events → StillAt p (turn p w r) other
    turn_stays last = at_role (slice_get w.roles r) last
