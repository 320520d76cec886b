-- What is told of a file whose global protocol is projected: the files of its roles, or the first refusal.
use Rattle.std.specs.Prelude.{◌≡◌, ℕ, List, [], ◌∷◌, ◌++◌, codes, map}
use Rattle.mg_text.specs.Call.{Name}
use Rattle.mg_text.specs.declared.place.Place.{Place}
use Rattle.scr_tree.specs.Faults.{condition_word}
use Rattle.scr_tree.specs.Tree.{LocalTree}
use Rattle.scr_read.specs.Outcome as scr
use Rattle.scr_global_tree.specs.Tree.{GlobalTree}
use Rattle.scr_global_read.specs.Outcome as reads
use Rattle.scr_project.specs.Laws.{AreProjected}
use Rattle.scr_project.specs.Outcome as projects
use Rattle.mg_refusal.specs.Refusals.{Refusal, refusal_at}
use Rattle.mg_refusal.specs.Order.{InFile}
use Rattle.mg_sources.specs.Files.{Source}
use Rattle.mg_projected.specs.declared.files.RoleFile.{RoleFile}
use Rattle.mg_projected.specs.Projected.{Answer, Files, Unread, Unprojected, Outcome, IsProjected}

-- What is said of an answer that is a refusal; the place of Syntax is left open.

abbrev pub IsSaidOfGlobal : reads.Answer → Refusal → Type 0
IsSaidOfGlobal (reads.Protocol g) r = ⊥
IsSaidOfGlobal (reads.TooLarge place) r = r ≡ refusal_at (codes "TooLarge") place []
IsSaidOfGlobal (reads.BadByte place) r = r ≡ refusal_at (codes "BadByte") place []
IsSaidOfGlobal (reads.Unsupported place word) r = r ≡ refusal_at (codes "Unsupported") place word
IsSaidOfGlobal reads.Syntax r = (place : Place) × (r ≡ refusal_at (codes "Syntax") place [])
IsSaidOfGlobal (reads.Refused condition place name) r = r ≡ refusal_at (condition_word condition) place name

-- behind a role that has no local protocol stands the condition that what it does doesn't meet
abbrev pub IsSaidOfProjection : projects.Answer → Refusal → Type 0
IsSaidOfProjection (projects.Protocol local) r = ⊥
IsSaidOfProjection (projects.NotMergeable place role) r = r ≡ refusal_at (codes "NotMergeable") place role
IsSaidOfProjection (projects.Unprojected place role (scr.Refused condition at name)) r =
    r ≡ refusal_at (codes "Unprojected") place (role ++ codes " " ++ condition_word condition)
IsSaidOfProjection (projects.Unprojected place role _) r = ⊥

abbrev pub IsSaid : Answer → Refusal → Type 0
IsSaid (Files files) r = ⊥
IsSaid (Unread answer) r = IsSaidOfGlobal answer r
IsSaid (Unprojected answer) r = IsSaidOfProjection answer r

-- The one file spells a global protocol, and these are the files of its roles.
pub record AreWritten (files : List Source) (written : List RoleFile) : Type 0 where
  pub source : Source
  pub one : files ≡ source ∷ []
  pub global : GlobalTree
  pub reads : reads.Outcome source.number source.bytes (reads.Protocol global)
  pub projected : IsProjected global written

-- The file spells a global protocol, and these are the local protocols of its roles, in the order of the header.
pub record AreLocals (source : Source) (global : GlobalTree) (locals : List LocalTree) : Type 0 where
  pub reads : reads.Outcome source.number source.bytes (reads.Protocol global)
  pub each : Name → LocalTree
  pub projected : AreProjected global each
  pub are : locals ≡ map each global.roles

-- The one file spells none, or a role of it has no local protocol, and this is the first refusal.
pub record FirstRefusal (files : List Source) (r : Refusal) : Type 0 where
  pub source : Source
  pub one : files ≡ source ∷ []
  pub answer : Answer
  pub gives : Outcome source.number source.bytes answer
  pub said : InFile source.number (IsSaid answer) r
