-- Laws of the class files that are written of sources, whether the usages of their objects are right or not.
use Rattle.std.specs.Prelude.{◌≢◌, ℕ, ◌<◌, List, [], map, length, Contains, None}
use Rattle.std.specs.List.{IsDistinct}
use Rattle.std.specs.Str.{bytes_eq}
use Rattle.mg_text.specs.Call.{Name}
use Rattle.cls_tree.specs.Tree.{Class as File}
use Rattle.jv_values.specs.Values.{Inputs}
use Rattle.jv_meaning.specs.Meaning.{mean}
use Rattle.jv_core.specs.Tree as Core
use Rattle.jv_core.specs.Meaning.{main_of}
use Rattle.vm_model.specs.Program.{Program}
use Rattle.vm_model.specs.Links.{Links}
use Rattle.vm_model.specs.Machine.{Machine}
use Rattle.vm_model.specs.Messages.{Messages}
use Rattle.vm_model.specs.Start.{IsStart}
use Rattle.vm_model.specs.Step.{step}
use Rattle.cls_verify.specs.Typing.{AllTypable}
use Rattle.vm_step.specs.Main.{HasMain}
use Rattle.vm_world_law.specs.declared.role.RoleMain.{RoleMain}
use Rattle.vm_world_law.specs.World.{World, turns, IsBegun}
use Rattle.vm_world_law.specs.Meant.{Holds, RunsAsMeant}
use Rattle.gen_rules.specs.Linked.{linked_program}
use Rattle.mg_sources.specs.Files.{Source}
use Rattle.mg_accepted.specs.Program.{HaveCore}
use Rattle.mg_accepted.specs.Accepted.{AreAccepted}
use Rattle.mg_fits.specs.Laws.{NoRoleIsStuckWhereFit}
use Rattle.mg_compile.specs.declared.files.ClassFile.{ClassFile}
use Rattle.mg_compile.specs.Files.{AreClassFiles}
use Rattle.mg_runs.specs.Runs.{AreSpelled, IsLoaded, HaveMains}
use Rattle.mg_runs.specs.Headline.{AreMeant, DoAsMeant, EachKeeps, MeaningsKeep, ObjectsDoTheirPart, ProtocolsAgree, Course, IsCourse}
use Rattle.mg_runs.specs.Headline.{IsRun}

-- The bytes of these class files are read back, and what is read links to the program that is expected of the core.
abbrev pub WrittenClassesLink : Type 0
WrittenClassesLink = (files : List Source) (core : Core.Program) (written : List ClassFile) → HaveCore files core →
    (made : AreClassFiles core written) →
    (read : List File) × AreSpelled (map (λ f. f.bytes) written) read × Links read (linked_program core made.are.all)

-- Whatever these bytes are read as and link to, each method of the program has a typing.
abbrev pub LoadedClassesAreTypable : Type 0
LoadedClassesAreTypable = (files : List Source) (core : Core.Program) (written : List ClassFile) → HaveCore files core →
    AreClassFiles core written → (program : Program) → IsLoaded (map (λ f. f.bytes) written) program → AllTypable program

-- Whatever these bytes are read as and link to: where a class of the core has a `main` the linked program has it, and from there the
-- machine
-- does what the class means in the sources, whatever the other roles sent.
abbrev pub RunsAreMeant : Type 0
RunsAreMeant = (files : List Source) (core : Core.Program) (written : List ClassFile) (have : HaveCore files core) →
    AreClassFiles core written →
    (class : Name) → main_of core class ≢ None → (read : List File) (program : Program) → AreSpelled (map (λ f. f.bytes) written) read →
    Links read program →
    HasMain program class × ((inputs : Inputs) (me : ℕ) (q : Messages) → Holds inputs q me [] → (start : Machine) →
    IsStart program class start →
    RunsAsMeant (step program me) start q (mean have.program.files class inputs))

-- So whatever roles run them: the machine of each does what is meant, and after every list of turns each did what is meant on the messages
-- that were sent to it.
abbrev pub RolesAreMeant : Type 0
RolesAreMeant = (files : List Source) (core : Core.Program) (written : List ClassFile) (have : HaveCore files core) →
    AreClassFiles core written →
    (mains : List RoleMain) → HaveMains core mains → (program : Program) → IsLoaded (map (λ f. f.bytes) written) program →
    DoAsMeant have.program mains program
    × ((first : World) → IsBegun program mains first → (taken : List ℕ) → AreMeant have.program mains program (turns program first taken))

-- Roles of accepted files keep to the typestates, wherever they did what is meant.
abbrev pub RolesKeep : Type 0
RolesKeep = (files : List Source) (core : Core.Program) (accepted : AreAccepted files core) (mains : List RoleMain) → HaveMains core mains →
    MeaningsKeep accepted.have.program mains
    × ((program : Program) (w : World) → AreMeant accepted.have.program mains program w → EachKeeps accepted.have.program mains w)

-- Objects of generated classes do their part, wherever the roles did what is meant, and do it whatever turns follow.
abbrev pub RolesPlay : Type 0
RolesPlay = (files : List Source) (core : Core.Program) (accepted : AreAccepted files core) (mains : List RoleMain) → HaveMains core mains →
    (program : Program) (w : World) → ((more : List ℕ) → AreMeant accepted.have.program mains program (turns program w more)) →
    ObjectsDoTheirPart files accepted.have.program mains program w

-- Roles of accepted files that begin at their `main`s and did what is meant after every list of turns don't get stuck, where they fit a
-- global protocol.
abbrev pub RolesFit : Type 0
RolesFit = (files : List Source) (core : Core.Program) (accepted : AreAccepted files core) (mains : List RoleMain) → HaveMains core mains →
    (program : Program) (first : World) → IsBegun program mains first →
    ((taken : List ℕ) → AreMeant accepted.have.program mains program (turns program first taken)) →
    NoRoleIsStuckWhereFit files core accepted mains program first

-- What is said of protocols holds of those of all files.
abbrev pub AllProtocolsAgree : Type 0
AllProtocolsAgree = (files : List Source) → ProtocolsAgree files

-- All that is promised of a run holds of each course.
abbrev pub CoursesAreRuns : Type 0
CoursesAreRuns = (files : List Source) (mains : List RoleMain) (order : List ℕ) (limit : ℕ) (run : Course)
    (course : IsCourse files mains order limit run) → IsRun files mains order limit run course

-- Accepted files whose class files can be written, with roles of different names whose classes have a `main`, have a course in each order of
-- turns that names every role, up to whatever limit.
abbrev pub EachOrderHasACourse : Type 0
EachOrderHasACourse = (files : List Source) (core : Core.Program) (written : List ClassFile) (mains : List RoleMain) →
    AreAccepted files core → AreClassFiles core written → HaveMains core mains → IsDistinct bytes_eq (map (λ m. m.role) mains) →
    (order : List ℕ) → ((r : ℕ) → r < length mains → Contains order r) → (limit : ℕ) →
    (run : Course) × IsCourse files mains order limit run
