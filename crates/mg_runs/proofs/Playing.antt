-- Objects of generated classes do their part in each role, at each moment.
use Rattle.std.proofs.Common.{◌≡◌, ℕ, suc, List, [], ◌∷◌, ◌++◌, Option, Some, None, map, slice_get, refl, sym, ap, ◌∙◌, subst, append-nil}
use Rattle.std.proofs.Common.{append_assoc}
use Rattle.std.proofs.lemmas.List.Elements.{Contains-append_left}
use Rattle.mg_text.specs.Call.{Name}
use Rattle.mg_text.specs.declared.event.Event.{Event}
use Rattle.mg_text.specs.declared.event.Ending.{Ending}
use Rattle.mg_text.specs.declared.event.Ending.TheVariants as endings
use Rattle.scr_tree.specs.Tree.{LocalTree}
use Rattle.scr_tree.specs.Meaning.{protocol_of}
use Rattle.scr_tree.specs.Valid.{IsValid}
use Rattle.jv_values.specs.Alike.{Prefix}
use Rattle.jv_values.specs.Seen.{IsMade, told, open_told}
use Rattle.jv_values.specs.Values.{Mismatch, Ended, Inputs}
use Rattle.jv_meaning.specs.Calls.{calls}
use Rattle.jv_meaning.specs.Meaning.{mean}
use Rattle.jv_rules.specs.Program.{Program as Sources}
use Rattle.stm_acts.specs.Acts.{acts}
use Rattle.stm_acts.specs.Played.{role_class, Played}
use Rattle.stm_acts.specs.Played as played
use Rattle.stm_acts.proofs.Apart.{IsOver, refused_again}
use Rattle.vm_model.specs.Machine.{Stepped, Went, Waits, Stops, noted}
use Rattle.vm_model.specs.Program.{Program}
use Rattle.vm_model.specs.Step.{step}
use Rattle.vm_world_law.specs.declared.role.RoleEvent.{RoleEvent}
use Rattle.vm_world_law.specs.declared.role.RoleMain.{RoleMain}
use Rattle.vm_world_law.specs.declared.stand.Stand.TheVariants as stands
use Rattle.vm_world_law.specs.Turns.{stand_of}
use Rattle.vm_world_law.specs.World.{State, Runs, Over, Role, World, of_role, stepped, turn_in, turn_at, turn, turns, events_of}
use Rattle.vm_world_law.proofs.Events.{events-append}
use Rattle.vm_world_law.proofs.Lists.{some_is}
use Rattle.vm_world_law.proofs.Swap.{turns-append}
use Rattle.vm_world_law.specs.Meant.{finish_of}
use Rattle.vm_world_law.specs.Worlds.{inputs_of, Shows, IsMeant}
use Rattle.mg_accepted_law.specs.Laws.{ObjectsPlay, AcceptedObjectsPlay}
use Rattle.mg_accepted_law.proofs.Read.{valid_read}
use Rattle.mg_runs.specs.Headline.{AreMeant, StaysAt, HasRefused, DoesItsPart, plays, refuses}
use Rattle.mg_runs.specs.Laws.{RolesPlay}
use Rattle.mg_runs.proofs.Keeping.{front}
use Rattle.mg_runs.proofs.Roles.{main_at}

-- ---- events of later moments

abbrev Adds : World → World → Type 0
Adds v w = (more : List RoleEvent) × (w.events ≡ v.events ++ more)

same_events : (v : World) → Adds v v
same_events v = ([], sym (append-nil v.events))

step_adds : (w : World) (r count : ℕ) (s : Stepped) → Adds w (stepped w r count s)
step_adds w r count (Went m q event) = (map (of_role r) (noted event), refl)
step_adds w r count (Waits peer) = same_events w
step_adds w r count (Stops ending) = same_events w

turn_adds : (p : Program) (w : World) (r : ℕ) (o : Option Role) → Adds w (turn_at p w r o)
turn_adds p w r None = same_events w
turn_adds p w r (Some role) = in_state role.state
  where
    in_state : (s : State) → Adds w (turn_in p w r role.count s)
    in_state (Runs m) = step_adds w r role.count (step p r m w.messages)
    in_state (Over ending) = same_events w

turns_add : (p : Program) (w : World) (order : List ℕ) → Adds w (turns p w order)
turns_add p w [] = same_events w
turns_add p w (r ∷ order) =
    let (first, is) = turn_adds p w r (slice_get w.roles r) in
    let (more, then) = turns_add p (turn p w r) order in
    (first ++ more, then ∙ ap (λ es. es ++ more) is ∙ append_assoc w.events first more)

-- what is seen of a role stays
later_events : (p : Program) (w : World) (r : ℕ) (order : List ℕ) → Prefix (events_of r w.events) (events_of r (turns p w order).events)
later_events p w r order =
    let (more, is) = turns_add p w order in
    record { later = events_of r more; is = ap (events_of r) is ∙ events-append r w.events more }

-- ---- prefixes

behind_prefix : {a b c : List Event} → Prefix a b → Prefix b c → Prefix a c
behind_prefix {a} {b} {c} p q = record {
  later = p.later ++ q.later;
  is = q.is ∙ ap (λ es. es ++ q.later) p.is ∙ append_assoc a p.later q.later;
}

nothing_behind : (a more : List Event) → a ≡ a ++ more → more ≡ []
nothing_behind [] more e = sym e
nothing_behind (x ∷ a) more e = nothing_behind a more (rest e)
  where
    rest : {x y : Event} {xs ys : List Event} → x ∷ xs ≡ y ∷ ys → xs ≡ ys
    rest e = cc

none_left : (xs ys : List Event) → xs ++ ys ≡ [] → xs ≡ []
none_left [] ys e = refl
none_left (x ∷ xs) ys e = absurd (cc e)

-- prefixes of each other are the same
same_prefix : {a b : List Event} → Prefix a b → Prefix b a → b ≡ a
same_prefix {a} {b} p q =
    let left : a ≡ a ++ (p.later ++ q.later) = q.is ∙ ap (λ es. es ++ q.later) p.is ∙ append_assoc a p.later q.later in
    p.is ∙ ap (λ es. a ++ es) (none_left p.later q.later (nothing_behind a (p.later ++ q.later) left)) ∙ append-nil a

made_later : (a b : List Event) (o : ℕ) (class : Name) → Prefix a b → IsMade a o class → IsMade b o class
made_later a b o class p made = subst (λ es. IsMade es o class) (sym p.is) (Contains-append_left a p.later _ made)

-- ---- endings

-- only a mismatch ends as one
ends_as : (ending : Ending) (peer label : Name) → finish_of ending ≡ Some (Mismatch peer label) → ending ≡ endings.Mismatch peer label
ends_as endings.Done peer label e = absurd (cc e)
ends_as endings.Zero peer label e = absurd (cc e)
ends_as endings.Null peer label e = absurd (cc e)
ends_as (endings.Mismatch q l) peer label e = same e
  where
    same : Some (Mismatch q l) ≡ Some (Mismatch peer label) → endings.Mismatch q l ≡ endings.Mismatch peer label
    same e = cc
ends_as (endings.NoPeer q) peer label e = absurd (cc e)
ends_as (endings.Bad _) peer label e = absurd (cc e)

-- where the meaning is over, so is the role
module _ (meant : Inputs → ℕ → Ended) (program : Program) (w : World) (r : ℕ) (role : Role) (is : IsMeant program meant w r role) where
  so_far : Prefix (events_of r w.events) (meant (inputs_of w r) (suc role.count)).events
  so_far = front (meant (inputs_of w r)) role.count (events_of r w.events) (stand_of program w r role.state) is.shows

  over_ends : (ending : Ending) (peer label : Name) → (meant (inputs_of w r) (suc role.count)).finish ≡ Mismatch peer label →
      role.state ≡ Over ending → ending ≡ endings.Mismatch peer label
  over_ends ending peer label finishes at =
      let shown : Shows (meant (inputs_of w r)) role.count (events_of r w.events) (stands.Ended ending) =
      subst (λ (s : State). Shows (meant (inputs_of w r)) role.count (events_of r w.events) (stand_of program w r s)) at is.shows in
      let (finish, said, means) = shown in
      ends_as ending peer label (said ∙ ap Some (sym (ap (λ (x : Ended). x.finish) means) ∙ finishes))

-- ---- a role

module _ (sources : Sources) (mains : List RoleMain) (program : Program) (w : World)
    (meant : (more : List ℕ) → AreMeant sources mains program (turns program w more))
    (r : ℕ) (main : RoleMain) (at : slice_get mains r ≡ Some main) where
  abbrev means : Inputs → ℕ → Ended
  means = mean sources.files main.class

  is_meant : (more : List ℕ) (role : Role) → slice_get (turns program w more).roles r ≡ Some role →
      IsMeant program means (turns program w more) r role
  is_meant more role there =
      let (other, stands, is) = (meant more).each r main at in
      subst (λ (x : Role). IsMeant program means (turns program w more) r x) (some_is (sym stands ∙ there)) is

  role_later : (more : List ℕ) → (role : Role) × (slice_get (turns program w more).roles r ≡ Some role)
  role_later more = let (role, there, is) = (meant more).each r main at in (role, there)

  module _ (local : LocalTree) (valid : ∥ IsValid local ∥₁)
      (play : (inputs : Inputs) (budget : ℕ) → ObjectsPlay sources local (means inputs budget))
      (o : ℕ) (made : IsMade (events_of r w.events) o (role_class local.me)) where
    abbrev now : List Event
    now = events_of r w.events

    abbrev PlayedIn : Ended → Type 0
    PlayedIn =
        Played local.me (protocol_of local) (calls sources.files (role_class local.me) o now) (open_told (told o now)) (acts o now) now

    -- what was seen so far is of the meaning on what will have been sent
    played_at : (more : List ℕ) (role : Role) → slice_get (turns program w more).roles r ≡ Some role →
        PlayedIn (means (inputs_of (turns program w more) r) (suc role.count))
    played_at more role there =
        let run = means (inputs_of (turns program w more) r) (suc role.count) in
        let begins : Prefix now run.events =
        behind_prefix (later_events program w r more) (so_far means program (turns program w more) r role (is_meant more role there)) in
        play (inputs_of (turns program w more) r) (suc role.count) o
        (made_later now run.events o (role_class local.me) begins made) now begins

    over_at : (run : Ended) (refused : HasRefused sources local o now run) (more : List ℕ) (role : Role) →
        slice_get (turns program w more).roles r ≡ Some role →
        IsOver now refused.peer refused.label (means (inputs_of (turns program w more) r) (suc role.count))
    over_at run refused more role there = refused_again local valid refused (played_at more role there)

    stays : (run : Ended) (refused : HasRefused sources local o now run) → StaysAt program w r refused.peer refused.label
    stays run refused = record {
      shows_no_more = λ more.
          let (role, there) = role_later more in
          let over = over_at run refused more role there in
          same_prefix (later_events program w r more)
          (subst (Prefix (events_of r (turns program w more).events)) over.is_all
          (so_far means program (turns program w more) r role (is_meant more role there)));
      ends = λ more role ending there ended.
          over_ends means program (turns program w more) r role (is_meant more role there) ending refused.peer refused.label
          (over_at run refused more role there).ends ended;
    }

    its_part : (run : Ended) → PlayedIn run → DoesItsPart sources local program w r run o
    its_part run (played.plays p) = plays p
    its_part run (played.refuses refused) = refuses refused (stays run refused)

    does_its_part : (role : Role) → slice_get w.roles r ≡ Some role →
        DoesItsPart sources local program w r (means (inputs_of w r) (suc role.count)) o
    does_its_part role there = its_part (means (inputs_of w r) (suc role.count)) (played_at [] role there)

pub roles_play : AcceptedObjectsPlay → RolesPlay
roles_play law files core accepted mains found program w meant r main role at there source local among reads o made =
    does_its_part accepted.have.program mains program w meant r main at local (valid_read source local reads)
    (law files core accepted source local among reads main.class (main_at core mains found r main at)) o made role there

-- roles that do what is meant after every list of turns do it from each of these moments on
pub from_there : (sources : Sources) (mains : List RoleMain) (program : Program) (first : World) →
    ((taken : List ℕ) → AreMeant sources mains program (turns program first taken)) → (taken more : List ℕ) →
    AreMeant sources mains program (turns program (turns program first taken) more)
from_there sources mains program first meant taken more =
    subst (AreMeant sources mains program) (turns-append program first taken more) (meant (taken ++ more))
