-- What the command `fit` answers.
use Rattle.std.proofs.Common.{◌≡◌, ℕ, ◌<◌, ◌^◌, List, [], ◌∷◌, map, length, sym, ap, subst, arith}
use Rattle.mg_text.specs.Call.{Name}
use Rattle.scr_global.specs.Tree.{said}
use Rattle.vm_world_law.specs.declared.role.RoleMain.{RoleMain}
use Rattle.mg_refusal.specs.Refusals.{Refusal}
use Rattle.mg_sources.specs.Files.{Source, source_of, sources}
use Rattle.mg_accepted.proofs.OneCore.{one_core}
use Rattle.mg_fits.specs.Fits.{Fits}
use Rattle.mg_fits.specs.Parts.{own_local}
use Rattle.mg_fits.specs.Promise.{NoRoleGetsStuck}
use Rattle.mg_fitted.specs.Fitted.{AreFitted, FirstRefusal}
use Rattle.jv_core.specs.Tree as Core
use Rattle.vm_model.specs.Program.{Program}
use Rattle.cls_tree.specs.Tree.{Class as File}
use Rattle.mg_runs.specs.Runs.{AreSpelled, IsLoaded, HaveMains}
use Rattle.mg_runs.specs.Laws.{CoursesAreRuns}
use Rattle.mg_exec.specs.Files.{AreFiles}
use Rattle.mg_exec.specs.Runs.{IsProgram}
use Rattle.mg_delivery.specs.declared.status.Status.TheVariants as statuses
use Rattle.mg_delivery.specs.declared.delivery.Action.TheVariants.{Print}
use Rattle.mg_delivery.specs.declared.delivery.Delivery.{Delivery}
use Rattle.mg_words.specs.Words.{Word, RoleClass, Fit, AreGlobalAndSources}
use Rattle.mg_top.specs.Commands.{cast_mains_of, fits_text, Gives, fitted, IsRefused}
use Rattle.mg_top.specs.Commands as commands
use Rattle.mg_top.specs.Fitting.{NoRunGetsStuck, NoExecGetsStuck, FitNeverSticks}
use Rattle.mg_top.proofs.CommandLemmas.{gives_so}
use Rattle.mg_top.proofs.FitEndings.{ends_free}

-- files from outside spell their classes
are_spelled : (sources : List Source) (classes : List File) → AreFiles sources classes → AreSpelled (map (λ s. s.bytes) sources) classes
are_spelled [] [] h = tt
are_spelled [] (c ∷ cs) h = absurd h
are_spelled (s ∷ ss) [] h = absurd h
are_spelled (s ∷ ss) (c ∷ cs) h = ((h.0).spells, are_spelled ss cs h.1)

are_loaded : (sources : List Source) (program : Program) → IsProgram sources program → IsLoaded (map (λ s. s.bytes) sources) program
are_loaded sources program (classes, files, links) = (classes, are_spelled sources classes files, links)

module _ (law : CoursesAreRuns) (global : Source) (files : List Source) (mains : List RoleMain) (f : AreFitted global files mains) where
  -- a course of files that fit has their core, and since it is a run none of its roles gets stuck
  no_run : NoRunGetsStuck global files mains
  no_run order limit run is =
      let same : f.core ≡ run.core = one_core files f.core run.core f.can_run.accepted.have is.accepted.have in
      let fits : Fits global files mains run.core = subst (Fits global files mains) same f.fits in
      let none : NoRoleGetsStuck is.accepted.have.program.files fits.tree.roles (said fits.tree.body) (own_local fits.parts fits.locals) mains
      run.program run.first = (law files mains order limit run is).fitting global fits in
      let ended = ends_free run.program run.last (none.runs order limit run.last is.runs) (λ h. h.complete.returned)
      (λ z. (z.number, z.role, z.there, z.zero)) in
      record { fits = fits; none = none; no_mismatch = ended.0; no_wait = ended.1 }

  -- class files as they are that have the bytes of those that are written of the files run as these do
  no_exec : NoExecGetsStuck global files mains
  no_exec core accepted written made classes same order limit run is =
      no_run order limit (record { core = core; written = written; program = run.program; first = run.first; last = run.last })
      (record {
        accepted = accepted;
        have_mains = subst (λ (z : Core.Program). HaveMains z mains)
            (one_core files f.core core f.can_run.accepted.have accepted.have) f.can_run.have_mains;
        class_files = made;
        loaded = subst (λ (z : List (List ℕ)). IsLoaded z run.program) same (are_loaded classes run.program is.linked);
        begins = is.begins;
        runs = is.runs;
      })

pub never_sticks : CoursesAreRuns → FitNeverSticks
never_sticks law global files mains f = (no_run law global files mains f, no_exec law global files mains f)

-- ---- the words and what was read of their files

-- there is a first file
pub some_file : (files : List Word) (n : ℕ) → AreGlobalAndSources files → length files ≡ n → n ≡ 0 → ⊥
some_file files n are same none = let e = ap length are.stand in absurd (omega arith)

pub as_many_behind : (files : List Word) (contents : List (List ℕ)) (name : Word) (names : List Word) (bytes : List ℕ)
    (rest : List (List ℕ)) → length files ≡ length contents → files ≡ name ∷ names → contents ≡ bytes ∷ rest → length names ≡ length rest
as_many_behind files contents name names bytes rest same is read =
    let e = ap length is in let f = ap length read in omega arith

pub few_behind : (contents : List (List ℕ)) (bytes : List ℕ) (rest : List (List ℕ)) → length contents < 2 ^ 32 → contents ≡ bytes ∷ rest →
    length rest < 2 ^ 32
few_behind contents bytes rest few read = let f = ap length read in omega arith

module _ (roles : List RoleClass) (files : List Word) (contents : List (List ℕ)) (name : Word) (names : List Word) (bytes : List ℕ)
    (rest : List (List ℕ)) (mains : List RoleMain) (is : files ≡ name ∷ names) (read : contents ≡ bytes ∷ rest)
    (run : mains ≡ cast_mains_of roles) where
  abbrev pub global : Source
  global = source_of (length names) name bytes

  pub fits_given : (d : Delivery) → ((given : Name) → AreFitted (source_of (length names) given bytes) (sources names rest) mains) →
      d.actions.items ≡ Print fits_text ∷ [] → d.status ≡ statuses.Done → Gives (Fit roles files) contents d.actions.items d.status
  fits_given d fit a s =
      let f : AreFitted global (sources names rest) (cast_mains_of roles) = subst (AreFitted global (sources names rest)) run (fit name) in
      subst (λ (z : List Word). Gives (Fit roles z) contents d.actions.items d.status) (sym is)
      (subst (λ (z : List (List ℕ)). Gives (Fit roles (name ∷ names)) z d.actions.items d.status) (sym read)
      (gives_so (Fit roles (name ∷ names)) (bytes ∷ rest) (Print fits_text ∷ []) statuses.Done d a s
      (fitted f)))

  pub unfit_given : (r : Refusal) → FirstRefusal global (sources names rest) mains r → IsRefused (Fit roles files) contents r
  unfit_given r h =
      subst (λ (z : List Word). IsRefused (Fit roles z) contents r) (sym is)
      (subst (λ (z : List (List ℕ)). IsRefused (Fit roles (name ∷ names)) z r) (sym read)
      (commands.fit (subst (λ (z : List RoleMain). FirstRefusal global (sources names rest) z r) run h)))
