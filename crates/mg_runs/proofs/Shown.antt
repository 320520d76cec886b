-- What running roles answers.
use Rattle.std.proofs.Common.{◌≡◌, ℕ, zero, suc, List, [], ◌∷◌, ◌++◌, Bool, Some, Result, Err, take, drop, get_or, slice_get}
use Rattle.std.proofs.Common.{map, refl, ap, ◌∙◌}
use Rattle.std.proofs.lemmas.Option.{get_or_from_slice_get}
use Rattle.jv_core.specs.Tree as Core
use Rattle.vm_world_law.specs.declared.role.RoleMain.{RoleMain}
use Rattle.mg_text.specs.Call.{Name}
use Rattle.mg_text.specs.Row.{Row}
use Rattle.vm_model.specs.Program.{Program}
use Rattle.mg_refusal.specs.Refusals.{Refusal}
use Rattle.mg_refusal.specs.Order.{Answers, at_first, at_next}
use Rattle.mg_sources.specs.Files.{Source}
use Rattle.mg_refusal.specs.declared.stop.Stop.{Stop}
use Rattle.mg_refusal.specs.declared.stop.Stop.TheVariants as stops
use Rattle.mg_accepted.specs.Accepted.{AreAccepted}
use Rattle.mg_accepted.specs.Accepted as accepted
use Rattle.mg_accepted.specs.View.{IsProgramOf}
use Rattle.mg_compile.specs.declared.files.ClassFile.{ClassFile}
use Rattle.mg_compile.specs.Files.{AreClassFiles}
use Rattle.mg_compile.specs.Compiled.{ExcessRefusal}
use Rattle.mg_runs.specs.declared.ran.Ran.{Ran}
use Rattle.mg_runs.specs.declared.going.Gone.{Gone}
use Rattle.mg_runs.specs.Going.{IsGone}
use Rattle.mg_runs.specs.Runs.{HaveMains, IsLoaded, messages_in}
use Rattle.mg_runs.specs.Commanded.{no_main, FirstRefusal}
use Rattle.mg_runs.specs.View.{IsOfRun}
use Rattle.mg_runs.specs.Mains.{IsWithout}
use Rattle.mg_runs.specs.inner.Going.{IsRunOf, told}

-- a list is what stands before one of its items, the item, and the rest
parts_at : {A : Type 0} (xs : List A) (k : ℕ) (x : A) → slice_get xs k ≡ Some x → xs ≡ take k xs ++ x ∷ drop (suc k) xs
parts_at [] k x at = absurd (cc at)
parts_at (y ∷ xs) zero x at = let e : y ≡ x = cc in ap (λ z. z ∷ xs) e
parts_at (y ∷ xs) (suc k) x at = ap (λ l. y ∷ l) (parts_at xs k x at)

-- what is shown of roles that took their turns
pub gone_shown : (core : Core.Program) (files : Row ClassFile) (mains : List RoleMain) (order : List ℕ) (limit : ℕ) (named traced : Bool)
    (program : Program) (gone : Gone) (trace : List ℕ) (messages : ℕ) → IsLoaded (map (λ f. f.bytes) files.items) program →
    IsGone program mains order limit named gone → trace ≡ told core gone.names.items gone.world.world.events traced →
    messages ≡ messages_in gone.world.world.events →
    IsRunOf core files.items mains order limit named traced
    (record { files = files; roles = gone.roles; printed = gone.printed; trace = trace; messages = messages })
gone_shown core files mains order limit named traced program gone trace messages loaded g traces counts = record {
  program = program;
  first = g.first;
  last = gone.world.world;
  loaded = loaded;
  begins = g.begins;
  runs = g.runs;
  shows = record {
    written = refl;
    counts = g.counts;
    stands = g.stands;
    printed_is = g.printed_is;
    trace_is = traces ∙ ap (λ (names : List Name). told core names gone.world.world.events traced) g.names_are;
    messages_are = counts;
  };
}

module _ (files : List Source) (mains : List RoleMain) (order : List ℕ) (limit : ℕ) (named traced : Bool) where
  -- the run of class files is a course of their files
  pub shown : (core : Core.Program) (written : List ClassFile) (ran : Ran) → AreAccepted files core → HaveMains core mains →
      AreClassFiles core written → IsRunOf core written mains order limit named traced ran →
      IsOfRun files mains order limit named traced ran
  shown core written ran a have made r = record {
    run = record { core = core; written = written; program = r.program; first = r.first; last = r.last };
    is = record { accepted = a; have_mains = have; class_files = made; loaded = r.loaded; begins = r.begins; runs = r.runs };
    shows = r.shows;
  }

  abbrev Runs : Result Ran Stop → Type 0
  Runs answer = Answers (IsOfRun files mains order limit named traced) (FirstRefusal files mains) answer

  pub run_unaccepted : (stop : Stop) → Answers (IsProgramOf files) (accepted.FirstRefusal files) (Err stop) → Runs (Err stop)
  run_unaccepted (stops.Refused r) h = at_first h
  run_unaccepted stops.Memory h = tt

  pub run_no_main : (core : Core.Program) (number : ℕ) (main : RoleMain) (r : Refusal) → AreAccepted files core →
      IsWithout core mains number →
      r ≡ no_main (get_or mains number main).class → Runs (Err (stops.Refused r))
  run_no_main core number main r a w is = at_next core a (at_first (record {
    front = take number mains;
    main = w.main;
    rest = drop (suc number) mains;
    parts = parts_at mains number w.main w.is;
    have = w.front;
    none = w.none;
    said = is ∙ ap (λ (m : RoleMain). no_main m.class) (get_or_from_slice_get mains number w.main main w.is);
  }))

  pub run_exceeded : (core : Core.Program) (stop : Stop) → AreAccepted files core → HaveMains core mains →
      Answers (λ (written : Row ClassFile). AreClassFiles core written.items) (ExcessRefusal core) (Err stop) → Runs (Err stop)
  run_exceeded core (stops.Refused r) a have h = at_next core a (at_next tt have h)
  run_exceeded core stops.Memory a have h = tt
