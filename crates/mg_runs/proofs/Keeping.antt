-- Roles of accepted files keep to the typestates, at each moment.
use Rattle.std.proofs.Common.{◌≡◌, ℕ, suc, List, [], sym, ap, ◌∙◌, subst, append-nil}
use Rattle.mg_text.specs.declared.event.Event.{Event}
use Rattle.mg_text.specs.declared.event.Ending.{Ending}
use Rattle.mg_text.specs.declared.event.Ending.TheVariants as endings
use Rattle.jv_values.specs.Alike.{Prefix}
use Rattle.jv_values.specs.Values.{Finish, Wait, Ended, Inputs}
use Rattle.jv_meaning.specs.Calls.{Finished}
use Rattle.jv_meaning.specs.Meaning.{mean}
use Rattle.jv_rules.specs.Program.{Program as Sources}
use Rattle.vm_model.specs.Program.{Program}
use Rattle.vm_world_law.specs.declared.role.RoleMain.{RoleMain}
use Rattle.vm_world_law.specs.declared.stand.Stand.{Stand}
use Rattle.vm_world_law.specs.declared.stand.Stand.TheVariants as stands
use Rattle.vm_world_law.specs.World.{State, Over, Role, World, events_of}
use Rattle.vm_world_law.specs.Turns.{stand_of}
use Rattle.vm_world_law.proofs.Lists.{some_is}
use Rattle.vm_world_law.specs.Meant.{Means}
use Rattle.vm_world_law.specs.Worlds.{inputs_of, Shows, IsMeant}
use Rattle.use_meant_law.specs.Laws.{KeepsTo}
use Rattle.mg_accepted_law.specs.KeptLaws.{AcceptedKeepTypestates}
use Rattle.mg_runs.specs.Headline.{Keeps, AreMeant, EachKeeps, MeaningsKeep}
use Rattle.mg_runs.specs.Laws.{RolesKeep}
use Rattle.mg_runs.proofs.Roles.{main_at}

module _ (meant : (budget : ℕ) → Ended) (count : ℕ) (events : List Event) where
  whole : (finish : Finish) → Means meant (suc count) events finish → Prefix events (meant (suc count)).events
  whole finish means = record { later = []; is = ap (λ (x : Ended). x.events) means ∙ sym (append-nil events) }

  -- whatever a role shows, its events so far are meant
  pub front : (stand : Stand) → Shows meant count events stand → Prefix events (meant (suc count)).events
  front (stands.Ended ending) h = whole h.0 h.2
  front (stands.Waits peer) h = whole (Wait peer) h
  front stands.Bound h = h

module _ (sources : Sources) (program : Program) (w : World) (r : ℕ) (role : Role) (meant : Inputs → ℕ → Ended)
    (keeps : (inputs : Inputs) (budget : ℕ) → KeepsTo sources (meant inputs budget)) (is : IsMeant program meant w r role) where
  run : KeepsTo sources (meant (inputs_of w r) (suc role.count))
  run = keeps (inputs_of w r) (suc role.count)

  ended : (ending : Ending) → role.state ≡ Over ending → Shows (meant (inputs_of w r)) role.count (events_of r w.events)
      (stands.Ended ending)
  ended ending at = subst (λ (s : State). Shows (meant (inputs_of w r)) role.count (events_of r w.events) (stand_of program w r s)) at
      is.shows

  role_keeps : Keeps sources w r role
  role_keeps = record {
    no_null = λ at. let (finish, said, means) = ended endings.Null at in
        run.no_null (ap (λ (x : Ended). x.finish) means ∙ sym (some_is said));
    follows = run.follows (events_of r w.events)
        (front (meant (inputs_of w r)) role.count (events_of r w.events) (stand_of program w r role.state) is.shows);
    finished = λ at. let (finish, said, means) = ended endings.Done at in
        subst (Finished sources.files sources.typestates) (ap (λ (x : Ended). x.events) means)
        (run.finished (ap (λ (x : Ended). x.finish) means ∙ sym (some_is said)));
  }

-- so do all roles of a moment
each_keeps : (sources : Sources) (mains : List RoleMain) (program : Program) (w : World) → MeaningsKeep sources mains →
    AreMeant sources mains program w →
    EachKeeps sources mains w
each_keeps sources mains program w keeps meant r main role at there =
    let (other, stands, is) = meant.each r main at in
    let same : other ≡ role = some_is (sym stands ∙ there) in
    role_keeps sources program w r role (mean sources.files main.class) (keeps r main at)
    (subst (λ (x : Role). IsMeant program (mean sources.files main.class) w r x) same is)

pub roles_keep : AcceptedKeepTypestates → RolesKeep
roles_keep law files core accepted mains found =
    let keeps : MeaningsKeep accepted.have.program mains = λ r main at. law files core accepted main.class
    (main_at core mains found r main at) in
    (keeps, λ program w meant. each_keeps accepted.have.program mains program w keeps meant)
