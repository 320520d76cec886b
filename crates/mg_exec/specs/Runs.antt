-- How several roles run the program of some class files, of which nothing is assumed; or why they don't.
use Rattle.std.specs.Prelude.{◌≡◌, ℕ, List, ◌∷◌, ◌++◌, codes, Some}
use Rattle.std.specs.List.{AllByRecursion}
use Rattle.mg_read.specs.First.{Judged}
use Rattle.cls_tree.specs.Tree.{Class as File}
use Rattle.vm_model.specs.Program.{Program}
use Rattle.vm_model.specs.Links.{Flaw, DuplicateClass, UnknownClass, UnknownMember, BadDescriptor, NoCode, Links, IsUnlinked}
use Rattle.vm_step.specs.Main.{HasMain}
use Rattle.vm_world_law.specs.declared.role.RoleMain.{RoleMain}
use Rattle.vm_world_law.specs.World.{World, IsBegun}
use Rattle.vm_world_law.specs.Turns as turning
use Rattle.mg_refusal.specs.Refusals.{Refusal, refusal_nowhere}
use Rattle.mg_refusal.specs.Order.{Finds, Then}
use Rattle.mg_sources.specs.Files.{Source}
use Rattle.mg_runs.specs.Commanded.{no_main}
use Rattle.mg_exec.specs.Files.{AreFiles, Refuses}

-- the program that the files link to, and the world before the first turn and at the stop
pub record Course : Type 0 where
  pub program : Program
  pub first : World
  pub last : World

-- the classes that the bytes of these files spell link to this program
abbrev pub IsProgram : List Source → Program → Type 0
IsProgram files program = (classes : List File) × AreFiles files classes × Links classes program

-- the class of each role is there and has a `main`
abbrev pub HaveMains : Program → List RoleMain → Type 0
HaveMains program mains = AllByRecursion (λ main. HasMain program main.class) mains

-- These class files are a program, and the run of these roles, in this order of turns, up to so many instructions, is this one.
pub record IsRun (files : List Source) (mains : List RoleMain) (order : List ℕ) (limit : ℕ) (run : Course) : Type 0 where
  pub linked : IsProgram files run.program
  pub have_mains : HaveMains run.program mains
  -- each role begins at the `main` of its class
  pub begins : IsBegun run.program mains run.first
  -- the turns are in this order, up to the first moment at which every role has ended or waits, or so many instructions were counted
  pub runs : turning.IsRun run.program run.first order limit run.last

-- a flaw, as a refusal with the name of what is flawed
abbrev pub flaw_refusal : Flaw → Refusal
flaw_refusal (DuplicateClass name) = refusal_nowhere (codes "DuplicateClass") name
flaw_refusal (UnknownClass name) = refusal_nowhere (codes "UnknownClass") name
flaw_refusal (UnknownMember name) = refusal_nowhere (codes "UnknownMember") name
flaw_refusal (BadDescriptor name) = refusal_nowhere (codes "BadDescriptor") name
flaw_refusal (NoCode name) = refusal_nowhere (codes "NoCode") name

-- the first refusal of files that are no program: the first file that is too large or is no class file, or else why they don't link
abbrev pub NoProgram : List Source → Refusal → Type 0
NoProgram files = Then (λ r. Judged Refuses files (Some r)) (AreFiles files) (λ classes. Finds (IsUnlinked classes) flaw_refusal)

-- the class of a role isn't there or has no `main`, and it is the first in the order of the roles
pub record LacksMain (program : Program) (mains : List RoleMain) (r : Refusal) : Type 0 where
  pub front : List RoleMain
  pub main : RoleMain
  pub rest : List RoleMain
  pub parts : mains ≡ front ++ main ∷ rest
  pub have : HaveMains program front
  pub none : HasMain program main.class → ⊥
  pub said : r ≡ no_main main.class

-- The first refusal of these files, where these roles are to run.
abbrev pub FirstRefusal : List Source → List RoleMain → Refusal → Type 0
FirstRefusal files mains = Then (NoProgram files) (IsProgram files) (λ program. LacksMain program mains)
