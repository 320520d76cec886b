-- Plain mains and their meanings agree.
use Rattle.std.proofs.Common.{◌≡◌, ◌≢◌, ℕ, suc, ◌+◌, List, [], replicate, Some, None, refl, sym, ap, ap₂, ◌∙◌, subst, arith}
use Rattle.std.specs.Prelude.{slice_get, Contains}
use Rattle.mg_text.specs.Call.{Name}
use Rattle.mg_text.specs.declared.event.Event.{Event}
use Rattle.mg_text.specs.declared.event.Ending.{Ending}
use Rattle.mg_text.specs.declared.event.Ending.TheVariants as endings
use Rattle.jv_values.specs.Values.{Finish, Wait, More, Inputs, Ended, Wrong}
use Rattle.jv_values.specs.Budget.{ran}
use Rattle.jv_core.specs.declared.program.MethodKind.TheVariants as kinds
use Rattle.jv_core.specs.Tree.{Method, Program}
use Rattle.jv_core.specs.Conditions.{IsCore}
use Rattle.jv_core.specs.Meaning.{as_run, language, cmean}
use Rattle.vm_model.specs.Program as linked
use Rattle.vm_model.specs.Program.{class_at}
use Rattle.vm_model.specs.Start.{main_in, started}
use Rattle.vm_model.specs.Tests.{max_locals_in}
use Rattle.vm_model.specs.Messages.{Messages}
use Rattle.vm_model.specs.Machine.{Machine, Steps, Stops}
use Rattle.vm_model.specs.Step.{step}
use Rattle.gen_rules.specs.Symbolic.{Instr}
use Rattle.gen_rules.specs.Classes.{Compiled, IsCompiled}
use Rattle.gen_rules.specs.Linked.{outlines_of, linked_program}
use Rattle.gen_links.specs.Files.{HasPlainNames}
use Rattle.jv_sound.proofs.Sound.{never_wrong}
use Rattle.gen_sound.specs.Following.{Moment, Stopped, EndsAlike}
use Rattle.vm_world_law.specs.Meant.{finish_of, Holds, Means, EndsSo, RunsAsMeant}
use Rattle.gen_sound.proofs.Plain.{ArePlain}
use Rattle.gen_sound.specs.Begun.{outermost, begun}
use Rattle.gen_sound.specs.Mains.{StandsAs, LinkedCodeRuns, MainsAgree}
use Rattle.gen_sound.proofs.Coming.{DoesWithin, PlainMainsRun, PlainMainsAgree}
use Rattle.gen_sound.proofs.Agreeing.{further_is, ended_so, waits_so, goes_so}
use Rattle.gen_sound.proofs.Bodies
use Rattle.gen_sound.proofs.Loading.{linked_runs}
use Rattle.gen_sound.proofs.Starting.{main_stands}
use Rattle.gen_sound.proofs.Linkage.{linkage}
use Rattle.gen_sound.proofs.Covering.{main_plain}
use Rattle.jv_sound.proofs.Lists.{some_is}

pub linked_code_runs : LinkedCodeRuns
linked_code_runs p ok plain all made class method m code h me r e f =
    linked_runs p ok plain all made me class method h.methods h.class_is m code h.method_is r e f

-- from the `main` of these numbers
run_from : (p : Program) → IsCore p → HasPlainNames p → (all : List (List Compiled)) → IsCompiled p all → (number : ℕ) (m : Method) →
    slice_get p.methods number ≡ Some m → m.kind ≡ kinds.Main → (may : List ℕ) → Contains may number →
    ((n : ℕ) (m : Method) → Contains may n → slice_get p.methods n ≡ Some m → ArePlain may m.body) → (class method : ℕ) (code : List Instr)
    →
    StandsAs p all class method m code → (inputs : Inputs) (me : ℕ) (q : Messages) → Holds inputs q me [] → (budget : ℕ) →
    DoesWithin me (linked_program p all) budget (begun (started (linked_program p all) class method) q)
    (ran (language p inputs) (Some (as_run p number m)) budget)
run_from p ok names all made number m at main may among plain class method code h inputs me q holds budget =
    let program : linked.Program = linked_program p all in
    let runs = linked_code_runs p ok names all made class method m code h me (outermost class method) refl refl in
    let meant = ran (language p inputs) (Some (as_run p number m)) budget in
    subst (λ k. EndsAlike (step program me) (suc budget) (record {
      machine = record {
        frame = record { class = class; method = method; place = 0; locals = replicate k None; operands = []; told = None };
        callers = [];
        heap = [];
      };
      messages = q;
      events = [];
    }) meant.finish meant.events) (sym (ap max_locals_in runs.at ∙ runs.locals))
    (Bodies.main_ends p ok (outlines_of p p.classes all) program inputs me (linkage p ok names all made me) may plain class method m code
    runs
    number at main budget h.is_code among q holds)

pub plain_mains_run : PlainMainsRun
plain_mains_run p ok names all made class main inputs me q holds start is budget =
    let h = main_stands p ok names all made class main.number main.method main.at main.is in
    let same_class : is.class ≡ h.class = some_is (sym is.main.has_class ∙ h.main.has_class) in
    let same_method : is.method ≡ h.method = some_is (sym is.main.has_main ∙ ap (λ c. main_in (class_at (linked_program p all) c))
    same_class
    ∙ h.main.has_main) in
    let machine : start ≡ started (linked_program p all) h.class h.method = is.machine ∙ ap₂ (started (linked_program p all)) same_class
    same_method in
    subst (λ r. DoesWithin me (linked_program p all) budget (begun start q) r) (ap (λ r. ran (language p inputs) r budget) (sym main.is))
    (subst (λ s. DoesWithin me (linked_program p all) budget (begun s q) (ran (language p inputs) (Some (as_run p main.number main.method))
    budget))
    (sym machine)
    (run_from p ok names all made main.number main.method main.at h.kind main.may main.among main.plain h.class h.method h.code h.stands
    inputs me q holds budget))

finish_is : {a b : Finish} → Some a ≡ Some b → a ≡ b
finish_is e = cc

-- a machine that does with each budget as is meant, where no meaning is wrong, agrees with the meaning
module _ (p : Program) (name : Name) (program : linked.Program) (inputs : Inputs) (me : ℕ) (start : Machine) (q : Messages)
    (meant : (budget : ℕ) → EndsAlike (step program me) (suc budget) (record { machine = start; messages = q; events = [] })
    (cmean p name inputs budget).finish (cmean p name inputs budget).events)
    (fine : (budget : ℕ) → (cmean p name inputs budget).finish ≢ Wrong) where
  abbrev c : Moment
  c = record { machine = start; messages = q; events = [] }

  same_ended : (r : Ended) (events : List Event) (f : Finish) → r.events ≡ events → r.finish ≡ f →
      r ≡ record { events = events; finish = f }
  same_ended r events f e g = ap₂ (λ x y. record { events = x; finish = y }) e g

  stopped_runs : (events : List Event) (e : Ending) → Stopped (step program me) c events (Stops e) →
      EndsSo (step program me) start q events e
  stopped_runs events e h = record {
    count = h.comes.count + 1;
    runs = record {
      steps = h.comes.count;
      last = h.moment.machine;
      messages = h.moment.messages;
      leads = subst (λ es. Steps (step program me) start q h.comes.count es h.moment.machine h.moment.messages)
          (further_is (step program me) c h.moment h.comes refl ∙ h.events_are) h.comes.steps;
      stops = h.stops;
      counted = refl;
    };
  }

  runs_to : (budget : ℕ) (events : List Event) (e : Ending) (f : Finish) → finish_of e ≡ Some f →
      EndsAlike (step program me) (suc budget) c f events → EndsSo (step program me) start q events e
  runs_to budget events endings.Done f is h =
      stopped_runs events endings.Done (subst (λ f. EndsAlike (step program me) (suc budget) c f events) (finish_is (sym is)) h)
  runs_to budget events endings.Zero f is h =
      stopped_runs events endings.Zero (subst (λ f. EndsAlike (step program me) (suc budget) c f events) (finish_is (sym is)) h)
  runs_to budget events endings.Null f is h =
      stopped_runs events endings.Null (subst (λ f. EndsAlike (step program me) (suc budget) c f events) (finish_is (sym is)) h)
  runs_to budget events (endings.Mismatch x y) f is h =
      stopped_runs events (endings.Mismatch x y) (subst (λ f. EndsAlike (step program me) (suc budget) c f events) (finish_is (sym is)) h)
  runs_to budget events (endings.NoPeer x) f is h =
      stopped_runs events (endings.NoPeer x) (subst (λ f. EndsAlike (step program me) (suc budget) c f events) (finish_is (sym is)) h)
  runs_to budget events (endings.Bad x) f is h = absurd (cc)

  as_meant : (budget : ℕ) (events : List Event) (f : Finish) → Means (cmean p name inputs) budget events f →
      EndsAlike (step program me) (suc budget) c f events
  as_meant budget events f h = subst (λ r. EndsAlike (step program me) (suc budget) c r.finish r.events) h (meant budget)

  pub agrees : RunsAsMeant (step program me) start q (cmean p name inputs)
  agrees = record {
    ended = λ count events ending runs.
        let r = cmean p name inputs (suc count) in
        let so = ended_so (step program me) start q (suc (suc count)) r.finish r.events events ending count (omega arith)
        (meant (suc count))
        (fine (suc count)) runs in
        (r.finish, so.is, same_ended r events r.finish so.events_are refl);
    waiting = λ count events m messages from steps waits.
        let r = cmean p name inputs (suc count) in
        let so = waits_so (step program me) start q (suc (suc count)) r.finish r.events events count from m messages (omega arith)
        (meant (suc count)) (fine (suc count)) steps waits in
        (so.peer, so.named, same_ended r events (Wait so.peer) so.events_are so.finish);
    going = λ count events m messages steps.
        let r = cmean p name inputs (suc count) in
        goes_so (step program me) start q (suc (suc count)) r.finish r.events events count m messages (omega arith) (meant (suc count))
        (fine (suc count)) steps;
    ends = λ budget events ending finish is means. runs_to budget events ending finish is (as_meant budget events finish means);
    waits = λ budget events peer means.
        let h = as_meant budget events (Wait peer) means in
        record {
          count = h.comes.count;
          machine = h.moment.machine;
          messages = h.moment.messages;
          steps = subst (λ es. Steps (step program me) start q h.comes.count es h.moment.machine h.moment.messages)
              (further_is (step program me) c h.moment h.comes refl ∙ h.events_are) h.comes.steps;
          from = h.from;
          named = h.named;
          waits = h.waits;
        };
    spent = λ budget events means.
        let h = as_meant budget events More means in
        record {
          count = h.comes.count;
          machine = h.moment.machine;
          messages = h.moment.messages;
          steps = subst (λ es. Steps (step program me) start q h.comes.count es h.moment.machine h.moment.messages)
              (further_is (step program me) c h.moment h.comes refl ∙ h.events_are) h.comes.steps;
          enough = h.enough;
        };
    right = fine;
  }

pub plain_mains_agree : PlainMainsAgree
plain_mains_agree p ok names all made class main inputs me q holds start is =
    agrees p class (linked_program p all) inputs me start q
    (λ budget. plain_mains_run p ok names all made class main inputs me q holds start is budget)
    (λ budget. never_wrong p ok class (λ e. absurd (let both = sym main.is ∙ e in cc)) inputs budget)

pub mains_agree : MainsAgree
mains_agree p ok names all made class main inputs me q holds start is =
    plain_mains_agree p ok names all made class (main_plain p ok class main) inputs me q holds start is
