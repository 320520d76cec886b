-- What running the roles of class files answers.
use Rattle.std.proofs.Common.{◌≡◌, ℕ, zero, suc, List, [], ◌∷◌, ◌++◌, Bool, Some, Result, Ok, Err, map, take, drop, get_or, slice_get, ap}
use Rattle.std.proofs.Common.{◌∙◌}
use Rattle.std.proofs.lemmas.Option.{get_or_from_slice_get}
use Rattle.mg_text.specs.Row.{Row}
use Rattle.mg_read.specs.First.{Judged}
use Rattle.cls_tree.specs.Tree.{Class as File}
use Rattle.cls_tree.specs.View.{class_of as file_of}
use Rattle.cls_tree.specs.declared.class.Class.{Class}
use Rattle.vm_load.specs.Faults.{flaw_of, IsRefused}
use Rattle.vm_load.specs.declared.fault.LoadFault.{LoadFault}
use Rattle.vm_model.specs.Links.{Links, IsUnlinked}
use Rattle.vm_model.specs.Program.{Program}
use Rattle.vm_model.specs.declared.program.Linked.{Linked}
use Rattle.vm_world_law.specs.declared.role.RoleMain.{RoleMain}
use Rattle.mg_refusal.specs.Refusals.{Refusal}
use Rattle.mg_refusal.specs.Order.{Finds, Answers, IsStopOf, at_first, at_next}
use Rattle.mg_refusal.specs.declared.stop.Stop.{Stop}
use Rattle.mg_refusal.specs.declared.stop.Stop.TheVariants as stops
use Rattle.mg_refusal.proofs.Orders.{stop_refused}
use Rattle.mg_sources.specs.Files.{Source}
use Rattle.mg_runs.specs.Commanded.{no_main}
use Rattle.mg_exec.specs.declared.ran.Ran.{Ran}
use Rattle.mg_exec.specs.Files.{AreFiles, Refuses}
use Rattle.mg_exec.specs.Runs.{IsProgram, HaveMains, flaw_refusal, NoProgram, FirstRefusal}
use Rattle.mg_exec.specs.View.{IsOfRun}
use Rattle.mg_exec.specs.inner.Mains.{IsWithout}
use Rattle.mg_exec.specs.inner.Going.{IsRunOf}
use Rattle.mg_exec.proofs.Told.{flaw_told}

-- ---- the program

abbrev IsProgramOf : List Source → Result Linked Stop → Type 0
IsProgramOf files answer = Answers (IsProgram files) (NoProgram files) answer

-- files that can't be read are no program
pub unread_program : (files : List Source) (stop : Stop) →
    Answers (λ (classes : Row Class). AreFiles files (map file_of classes.items)) (λ r. Judged Refuses files (Some r)) (Err stop) →
    IsProgramOf files (Err stop)
unread_program files (stops.Refused r) judged = at_first judged
unread_program files stops.Memory h = tt

-- what linking the classes of files answers is the program of the files
pub program_linked : (files : List Source) (classes : List File) (result : Result Linked Stop) → AreFiles files classes →
    Answers (Links classes) (Finds (IsUnlinked classes) flaw_refusal) result → IsProgramOf files result
program_linked files classes (Ok linked) are links = (classes, are, links)
program_linked files classes (Err (stops.Refused r)) are found = at_next classes are found
program_linked files classes (Err stops.Memory) are h = tt

-- a flaw that is told is one of the files
pub unlinked : (classes : List File) (fault : LoadFault) (stop : Stop) → IsRefused fault classes →
    IsStopOf (λ flaw r. r ≡ flaw_refusal flaw) (flaw_of fault) stop →
    Answers (Links classes) (Finds (IsUnlinked classes) flaw_refusal) (Err stop)
unlinked classes fault stop refused h =
    stop_refused (λ flaw r. r ≡ flaw_refusal flaw) (Links classes)
    (Finds (IsUnlinked classes) flaw_refusal) (flaw_of fault) stop h (λ flaw r e says. (flaw, flaw_told fault classes flaw refused e, says))

-- ---- its run

-- a list is what stands before one of its items, the item, and the rest
parts_at : {A : Type 0} (xs : List A) (k : ℕ) (x : A) → slice_get xs k ≡ Some x → xs ≡ take k xs ++ x ∷ drop (suc k) xs
parts_at [] k x at = absurd (cc at)
parts_at (y ∷ xs) zero x at = let e : y ≡ x = cc in ap (λ z. z ∷ xs) e
parts_at (y ∷ xs) (suc k) x at = ap (λ l. y ∷ l) (parts_at xs k x at)

module _ (files : List Source) (mains : List RoleMain) (order : List ℕ) (limit : ℕ) (named traced : Bool) where
  abbrev Runs : Result Ran Stop → Type 0
  Runs answer = Answers (IsOfRun files mains order limit named traced) (FirstRefusal files mains) answer

  -- files that are no program aren't run
  pub run_none : (stop : Stop) → IsProgramOf files (Err stop) → Runs (Err stop)
  run_none (stops.Refused r) h = at_first h
  run_none stops.Memory h = tt

  pub run_no_main : (program : Program) (number : ℕ) (main : RoleMain) (r : Refusal) → IsProgram files program →
      IsWithout program mains number →
      r ≡ no_main (get_or mains number main).class → Runs (Err (stops.Refused r))
  run_no_main program number main r h w is = at_next program h (record {
    front = take number mains;
    main = w.main;
    rest = drop (suc number) mains;
    parts = parts_at mains number w.main w.is;
    have = w.front;
    none = w.none;
    said = is ∙ ap (λ (m : RoleMain). no_main m.class) (get_or_from_slice_get mains number w.main main w.is);
  })

  pub run_shown : (program : Program) (ran : Ran) → IsProgram files program → HaveMains program mains →
      IsRunOf program mains order limit named traced ran → Runs (Ok ran)
  run_shown program ran h have r = record {
    run = record { program = program; first = r.first; last = r.last };
    is = record { linked = h; have_mains = have; begins = r.begins; runs = r.runs };
    shows = r.shows;
  }
