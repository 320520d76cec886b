-- The first refusal of files whose roles aren't run.
use Rattle.std.specs.Prelude.{◌≡◌, List, ◌∷◌, ◌++◌, None, codes}
use Rattle.mg_text.specs.Call.{Name}
use Rattle.jv_core.specs.Tree as Core
use Rattle.jv_core.specs.Meaning.{main_of}
use Rattle.vm_world_law.specs.declared.role.RoleMain.{RoleMain}
use Rattle.mg_refusal.specs.Refusals.{Refusal, refusal_nowhere}
use Rattle.mg_refusal.specs.Order.{Then}
use Rattle.mg_sources.specs.Files.{Source}
use Rattle.mg_accepted.specs.Accepted.{AreAccepted}
use Rattle.mg_accepted.specs.Accepted as accepted
use Rattle.mg_compile.specs.Compiled.{ExcessRefusal}
use Rattle.mg_runs.specs.Runs.{HaveMains}

-- the class has no `main`
abbrev pub no_main : Name → Refusal
no_main class = refusal_nowhere (codes "NoMain") class

-- the class of a role has no `main`, and it is the first in the order of the roles
pub record LacksMain (core : Core.Program) (mains : List RoleMain) (r : Refusal) : Type 0 where
  pub front : List RoleMain
  pub main : RoleMain
  pub rest : List RoleMain
  pub parts : mains ≡ front ++ main ∷ rest
  pub have : HaveMains core front
  pub none : main_of core main.class ≡ None
  pub said : r ≡ no_main main.class

-- The first refusal of these files, where these roles are to run: of those that aren't accepted; else by the first role whose class has no
-- `main`; else by the first size that is too large in a class file.
abbrev pub FirstRefusal : List Source → List RoleMain → Refusal → Type 0
FirstRefusal files mains =
    Then (accepted.FirstRefusal files) (AreAccepted files) (λ core.
    Then (LacksMain core mains) (λ (done : Unit {0}). HaveMains core mains) (λ done. ExcessRefusal core))
