-- What each command gives: what it does about the contents that were read of its files, in their order, and the status that it then has.
use Rattle.std.specs.Prelude.{ℕ, Bool, true, false, List, [], ◌∷◌, ◌++◌, map, codes, length, Option, Some, None, if◌then◌else◌}
use Rattle.scr_tree.specs.Tree.{LocalTree}
use Rattle.mg_calls.specs.Calls.{CallAt}
use Rattle.jv_core.specs.Tree as Core
use Rattle.use_check.specs.Report.{IsReport}
use Rattle.mg_accepted.specs.Accepted.{AreAccepted}
use Rattle.mg_accepted.specs.Accepted as accepted
use Rattle.mg_accepted.specs.Program.{HaveCore}
use Rattle.mg_accepted.specs.Program as program
use Rattle.mg_client.specs.declared.files.ClientFile.{ClientFile}
use Rattle.mg_client.specs.Clients.{AreClients}
use Rattle.mg_client.specs.Clients as playing
use Rattle.mg_faults.specs.Faults.{AllRefusals}
use Rattle.mg_shown.specs.Shown.{IsShown}
use Rattle.mg_compile.specs.declared.files.ClassFile.{ClassFile}
use Rattle.mg_compile.specs.Compiled.{AreCompiled}
use Rattle.mg_compile.specs.Compiled as compiling
use Rattle.vm_world_law.specs.declared.role.RoleMain.{RoleMain}
use Rattle.vm_world_law.specs.Turns.{stands_in}
use Rattle.mg_trace.specs.Trace.{trace, plain_trace, printed}
use Rattle.mg_runs.specs.Lines.{role_lines}
use Rattle.mg_runs.specs.Runs.{names_of, messages_in}
use Rattle.mg_runs.specs.Headline.{Course, IsCourse}
use Rattle.mg_runs.specs.Commanded as running
use Rattle.mg_refined.specs.Refined.{AreJudged}
use Rattle.mg_refined.specs.Refined as refining
use Rattle.mg_exec.specs.Runs as executing
use Rattle.mg_verified.specs.Verified.{AreVerified}
use Rattle.mg_verified.specs.Verified as verifying
use Rattle.mg_fitted.specs.Fitted.{AreFitted}
use Rattle.mg_fitted.specs.Fitted as fitting
use Rattle.mg_load.specs.Workload.{file_names, file_texts, loaded_line}
use Rattle.mg_projected.specs.declared.files.RoleFile.{RoleFile}
use Rattle.mg_projected.specs.Told.{AreWritten}
use Rattle.mg_projected.specs.Told as projecting
use Rattle.mg_delivery.specs.declared.status.Status.{Status}
use Rattle.mg_delivery.specs.declared.status.Status.TheVariants.{Done, Refused}
use Rattle.mg_delivery.specs.declared.delivery.Action.{Action}
use Rattle.mg_delivery.specs.declared.delivery.Action.TheVariants.{Print, Say}
use Rattle.mg_words.specs.Words.{Word, RoleClass, Asked, limit_of, mains_of, order_of, are_named, Command, Translate, Client, Conform}
use Rattle.mg_words.specs.Words.{Check}
use Rattle.mg_words.specs.Words.{Compile, Run, Exec, Refine, Project, Load, Verify, Fit, Show, Several}
use Rattle.mg_refusal.specs.Refusals.{Refusal}
use Rattle.mg_sources.specs.Files.{Source, source_of, sources}
use Rattle.mg_sources.specs.Reading.{Protocol, Reads}
use Rattle.mg_sources.specs.Sources as reading
use Rattle.mg_top.specs.Writing.{classes_written, roles_written, clients_written}
use Rattle.mg_top.specs.Translation.{AreTranslated}
use Rattle.mg_top.specs.Statuses.{status_of}
use Rattle.mg_delivery.specs.Lines.{refusal_line, refusal_lines}
use Rattle.mg_top.specs.Conformance.{Lists, Conforms, ConformRefusal}

-- an empty text isn't put
abbrev pub prints : List ℕ → List Action
prints [] = []
prints (c ∷ cs) = Print (c ∷ cs) ∷ []

-- the class files are written where a folder is named
abbrev pub kept_in : Option Word → List ClassFile → List Action
kept_in None written = []
kept_in (Some folder) written = classes_written (Some folder) written

-- the roles of a run, each with the class whose `main` it runs
abbrev pub role_main_of : RoleClass → RoleMain
role_main_of main = record { role = main.role; class = main.class }

abbrev pub role_mains_of : Asked → List RoleMain
role_mains_of asked = map role_main_of (mains_of asked)

-- the roles of a cast
abbrev pub cast_mains_of : List RoleClass → List RoleMain
cast_mains_of roles = map role_main_of roles

-- what is put of roles that fit
abbrev pub fits_text : List ℕ
fits_text = codes "fits" ++ 10 ∷ []

-- the trace, where it is asked for, and a line for each role in the order of the words
abbrev pub run_said : Asked → Course → List ℕ
run_said asked r =
    (if asked.traced then trace r.core (names_of (role_mains_of asked)) r.last.events else [])
    ++ role_lines (names_of (role_mains_of asked)) (map (λ role. role.count) r.last.roles) (stands_in r.program r.last)

-- what is printed, in the order of the events, behind the role's name where roles are named
abbrev pub run_printed : Asked → Course → List ℕ
run_printed asked r = printed (are_named asked) (names_of (role_mains_of asked)) r.last.events

-- the same of class files as they are: no types of methods are known, so that an answer is told as a number
abbrev pub exec_said : Asked → executing.Course → List ℕ
exec_said asked r =
    (if asked.traced then plain_trace (names_of (role_mains_of asked)) r.last.events else [])
    ++ role_lines (names_of (role_mains_of asked)) (map (λ role. role.count) r.last.roles) (stands_in r.program r.last)

abbrev pub exec_printed : Asked → executing.Course → List ℕ
exec_printed asked r = printed (are_named asked) (names_of (role_mains_of asked)) r.last.events

-- what is asked for of a workload: the two roles of its classes take turns, up to 20,000,000 instructions
abbrev pub load_asked : Asked
load_asked = record {
  roles = Several (record { role = codes "A"; class = codes "AMain" } ∷ record { role = codes "B"; class = codes "BMain" } ∷ []);
  order = None;
  steps = Some 20000000;
  traced = false;
  folder = None;
}

-- its files, as if they had been read
abbrev pub load_sources : (branches seed : ℕ) → List Source
load_sources branches seed = sources file_names (file_texts branches seed)

-- the status of an answer
abbrev pub refined_status : Bool → Status
refined_status true = Done
refined_status false = Refused

-- What a command gives of files that aren't refused: one case a command.
pub data Gives : Command → List (List ℕ) → List Action → Status → Type 0 where
  translated : {package_name folder : Option Word} {files : List Word} {contents : List (List ℕ)} {writes : List Action} →
      AreTranslated (record { package_name = package_name; folder = folder }) (sources files contents) writes →
      Gives (Translate package_name folder files) contents writes Done
  -- each class that is written is accepted by `check` beside the file of its protocol
  played : {package_name folder : Option Word} {files : List Word} {contents : List (List ℕ)} (written : List ClientFile) →
      AreClients package_name (sources files contents) written →
      Gives (Client package_name folder files) contents (clients_written folder written) Done
  -- a file of a protocol, and one of calls
  conforms : {protocol calls : Word} {bytes listed text : List ℕ} {status : Status} (local : LocalTree) (list : List CallAt) →
      Reads (source_of 0 protocol bytes) (Protocol local) → Lists (source_of 1 calls listed) list → Conforms local list text status →
      Gives (Conform (protocol ∷ calls ∷ [])) (bytes ∷ listed ∷ []) (Print text ∷ []) status
  checked : {all : Bool} {files : List Word} {contents : List (List ℕ)} {text : List ℕ} (core : Core.Program) →
      AreAccepted (sources files contents) core → IsReport core text → Gives (Check all files) contents (prints text) Done
  -- or all that is wrong, a line for each
  faulted : {files : List Word} {contents : List (List ℕ)} {rs : List Refusal} → AllRefusals (sources files contents) rs →
      Gives (Check true files) contents (Say (refusal_lines files rs) ∷ []) Refused
  compiled : {folder : Option Word} {files : List Word} {contents : List (List ℕ)} (written : List ClassFile) →
      AreCompiled (sources files contents) written →
      Gives (Compile folder files) contents (classes_written folder written) Done
  ran : {asked : Asked} {files : List Word} {contents : List (List ℕ)} (r : Course) →
      IsCourse (sources files contents) (role_mains_of asked) (order_of asked) (limit_of asked) r →
      Gives (Run asked files) contents (kept_in asked.folder r.written ++ (prints (run_printed asked r) ++ Say (run_said asked r) ∷ []))
      (status_of (stands_in r.program r.last))
  -- of class files as they are that isn't known
  executed : {asked : Asked} {files : List Word} {contents : List (List ℕ)} (r : executing.Course) →
      executing.IsRun (sources files contents) (role_mains_of asked) (order_of asked) (limit_of asked) r →
      Gives (Exec asked files) contents (prints (exec_printed asked r) ++ Say (exec_said asked r) ∷ [])
      (status_of (stands_in r.program r.last))
  refined : {files : List Word} {contents : List (List ℕ)} {text : List ℕ} {stands : Bool} → AreJudged (sources files contents) text stands
      →
      Gives (Refine files) contents (Print text ∷ []) (refined_status stands)
  -- the files of the roles of a global protocol: each has the text of its role's projection, of which the laws of projection speak
  projected : {folder : Option Word} {files : List Word} {contents : List (List ℕ)} (written : List RoleFile) →
      AreWritten (sources files contents) written → Gives (Project folder files) contents (roles_written folder written) Done
  -- a workload is run as other files are; behind what is printed stands the line that tells how large it was
  loaded : {branches seed : ℕ} {contents : List (List ℕ)} (r : Course) →
      IsCourse (load_sources branches seed) (role_mains_of load_asked) (order_of load_asked) (limit_of load_asked) r →
      Gives (Load branches seed) contents
      (Print (run_printed load_asked r ++ loaded_line branches seed (messages_in r.last.events)) ∷ Say (run_said load_asked r) ∷ [])
      (status_of (stands_in r.program r.last))
  -- how many methods class files have, where each has a typing
  verified : {files : List Word} {contents : List (List ℕ)} {line : List ℕ} → AreVerified (sources files contents) line →
      Gives (Verify files) contents (Print line ∷ []) Done
  -- the program of the files behind the first, run by these roles, fits the global protocol of the first, whose number is the next behind
  -- theirs
  fitted : {roles : List RoleClass} {global : Word} {files : List Word} {bytes : List ℕ} {contents : List (List ℕ)} →
      AreFitted (source_of (length files) global bytes) (sources files contents) (cast_mains_of roles) →
      Gives (Fit roles (global ∷ files)) (bytes ∷ contents) (Print fits_text ∷ []) Done
  -- a line for each call of a protocol method in the program, whether or not its demands fail
  shown : {files : List Word} {contents : List (List ℕ)} {text : List ℕ} (core : Core.Program) → HaveCore (sources files contents) core →
      IsShown files core text → Gives (Show files) contents (prints text) Done

-- The first refusal of a command's files: one case a command.
pub data IsRefused : Command → List (List ℕ) → Refusal → Type 0 where
  translate : {package_name folder : Option Word} {files : List Word} {contents : List (List ℕ)} {r : Refusal} →
      reading.FirstRefusal (sources files contents) r → IsRefused (Translate package_name folder files) contents r
  client : {package_name folder : Option Word} {files : List Word} {contents : List (List ℕ)} {r : Refusal} →
      playing.FirstRefusal package_name (sources files contents) r → IsRefused (Client package_name folder files) contents r
  -- a file of a protocol, and then one of calls
  conform : {protocol calls : Word} {bytes listed : List ℕ} {r : Refusal} →
      ConformRefusal (source_of 0 protocol bytes) (source_of 1 calls listed) r → IsRefused (Conform (protocol ∷ calls ∷ []))
      (bytes ∷ listed ∷ []) r
  check : {files : List Word} {contents : List (List ℕ)} {r : Refusal} →
      accepted.FirstRefusal (sources files contents) r → IsRefused (Check false files) contents r
  compile : {folder : Option Word} {files : List Word} {contents : List (List ℕ)} {r : Refusal} →
      compiling.FirstRefusal (sources files contents) r → IsRefused (Compile folder files) contents r
  run : {asked : Asked} {files : List Word} {contents : List (List ℕ)} {r : Refusal} →
      running.FirstRefusal (sources files contents) (role_mains_of asked) r → IsRefused (Run asked files) contents r
  exec : {asked : Asked} {files : List Word} {contents : List (List ℕ)} {r : Refusal} →
      executing.FirstRefusal (sources files contents) (role_mains_of asked) r → IsRefused (Exec asked files) contents r
  refine : {files : List Word} {contents : List (List ℕ)} {r : Refusal} →
      refining.FirstRefusal (sources files contents) r → IsRefused (Refine files) contents r
  project : {folder : Option Word} {files : List Word} {contents : List (List ℕ)} {r : Refusal} →
      projecting.FirstRefusal (sources files contents) r → IsRefused (Project folder files) contents r
  load : {branches seed : ℕ} {contents : List (List ℕ)} {r : Refusal} →
      running.FirstRefusal (load_sources branches seed) (role_mains_of load_asked) r → IsRefused (Load branches seed) contents r
  verify : {files : List Word} {contents : List (List ℕ)} {r : Refusal} →
      verifying.FirstRefusal (sources files contents) r → IsRefused (Verify files) contents r
  -- the file of the global protocol is numbered behind the others
  fit : {roles : List RoleClass} {global : Word} {files : List Word} {bytes : List ℕ} {contents : List (List ℕ)} {r : Refusal} →
      fitting.FirstRefusal (source_of (length files) global bytes) (sources files contents) (cast_mains_of roles) r →
      IsRefused (Fit roles (global ∷ files)) (bytes ∷ contents) r
  -- by its readers, roles and types
  show : {files : List Word} {contents : List (List ℕ)} {r : Refusal} →
      program.FirstRefusal (sources files contents) r → IsRefused (Show files) contents r

-- names, the first of them behind the others
abbrev pub first_last : List Word → List Word
first_last [] = []
first_last (name ∷ names) = names ++ name ∷ []

-- the names of the files that a command judges
abbrev pub judged_names : Command → List Word
judged_names (Translate package_name folder files) = files
judged_names (Client package_name folder files) = files
judged_names (Conform files) = files
judged_names (Check all files) = files
judged_names (Compile folder files) = files
judged_names (Run asked files) = files
judged_names (Exec asked files) = files
judged_names (Refine files) = files
judged_names (Project folder files) = files
judged_names (Load branches seed) = file_names
judged_names (Verify files) = files
judged_names (Fit roles files) = first_last files
judged_names (Show files) = files

-- A command gives this, or says the line of the first refusal of its files.
pub data Yields (command : Command) (contents : List (List ℕ)) : List Action → Status → Type 0 where
  gives : {actions : List Action} {status : Status} → Gives command contents actions status → Yields command contents actions status
  refused : {r : Refusal} → IsRefused command contents r → Yields command contents (Say (refusal_line (judged_names command) r) ∷ [])
      Refused
