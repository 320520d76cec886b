-- The conditions under which roles that run files fit a global protocol, in the order in which they are judged: where each is at fault,
-- and how it is refused.
use Rattle.std.specs.Prelude.{◌≡◌, ℕ, true, List, [], ◌∷◌, map, codes, Option, Some, None, Contains}
use Rattle.mg_text.specs.Call.{Name}
use Rattle.mg_text.specs.Places.{start_of}
use Rattle.mg_read.specs.First.{Judged, with_earlier}
use Rattle.scr_tree.specs.Tree.{LocalTree}
use Rattle.scr_back.specs.Same.{AreSame}
use Rattle.scr_global_tree.specs.Tree.{GlobalTree}
use Rattle.scr_project.specs.Outcome as projects
use Rattle.jv_tree.specs.BuiltIn.{session_method}
use Rattle.jv_core.specs.Tree.{Method, Program}
use Rattle.jv_core.specs.Lookup.{class_text, class_numbered, is_main}
use Rattle.stm_acts.specs.Played.{role_class}
use Rattle.vm_world_law.specs.declared.role.RoleMain.{RoleMain}
use Rattle.mg_refusal.specs.Refusals.{Refusal, refusal_at, refusal_nowhere}
use Rattle.mg_sources.specs.Reading.{Part}
use Rattle.fit_uses.specs.declared.usage.Use.{Use}
use Rattle.fit_uses.specs.declared.usage.Use.TheVariants.{Talks, Makes}
use Rattle.fit_uses.specs.Uses.{uses_beside_making}
use Rattle.mg_fits.specs.Parts.{Headed, header, protocols_in, roles_in, own_uses}

pub data Condition : Type 0 where
  Unplayed : Condition
  Stranger : Condition
  SharedMain : Condition
  NoProtocol : Condition
  OtherProtocol : Condition
  OwnSession : Condition
  MadeElsewhere : Condition
  NotMade : Condition

abbrev pub conditions : List Condition
conditions = Unplayed ∷ Stranger ∷ SharedMain ∷ NoProtocol ∷ OtherProtocol ∷ OwnSession ∷ MadeElsewhere ∷ NotMade ∷ []

-- a global protocol, what the other files spell, their core, and the roles with their classes
module _ (global : GlobalTree) (parts : List Part) (core : Program) (mains : List RoleMain) where
  -- the roles that the global protocol lists
  abbrev pub listed : List Headed
  listed = header global.roles global.places

  -- a role that nobody plays
  abbrev pub IsUnplayed : Headed → Refusal → Type 0
  IsUnplayed headed r =
      (Contains (map (λ main. main.role) mains) headed.role → ⊥) × (r ≡ refusal_at (codes "Unplayed") headed.place headed.role)

  -- one that the global protocol doesn't list
  abbrev pub IsStranger : RoleMain → Refusal → Type 0
  IsStranger main r = (Contains global.roles main.role → ⊥) × (r ≡ refusal_nowhere (codes "Stranger") main.role)

  -- a class that an earlier role has too
  abbrev pub SharesMain : List RoleMain × RoleMain → Refusal → Type 0
  SharesMain (earlier, main) r =
      Contains (map (λ other. other.class) earlier) main.class × (r ≡ refusal_nowhere (codes "SharedMain") main.class)

  -- a role whose protocol no file has
  abbrev pub HasNoProtocol : Headed → Refusal → Type 0
  HasNoProtocol headed r =
      (Contains (roles_in parts) headed.role → ⊥) × (r ≡ refusal_at (codes "NoProtocol") headed.place headed.role)

  -- what a file has is the projection of the global protocol for its role, places aside, and nothing more; its name, its roles and its
  -- types are free
  pub record IsProjection (local : LocalTree) : Type 0 where
    pub projection : LocalTree
    pub projected : projects.Outcome global local.me (projects.Protocol projection)
    pub same : AreSame projection.body local.body
    pub alone : local.others ≡ []

  -- a role whose protocol in the files is another
  pub record HasOther (headed : Headed) (r : Refusal) : Type 0 where
    pub local : LocalTree
    pub there : Contains (protocols_in parts) local
    pub of_role : local.me ≡ headed.role
    pub other : IsProjection local → ⊥
    pub said : r ≡ refusal_at (codes "OtherProtocol") (start_of local.file) headed.role

  -- the uses of all code of the sources but for the makings of the roles
  abbrev pub uses : List Use
  uses = own_uses (roles_in parts) core mains

  -- a call of a method of `Session`
  abbrev pub IsOwnSession : Use → Refusal → Type 0
  IsOwnSession (Talks place call) r = r ≡ refusal_at (codes "OwnSession") place (session_method call).name
  IsOwnSession (Makes place class) r = ⊥

  -- an object of the class of a role is made, and not by the making of its role
  pub data IsMadeElsewhere : Use → Refusal → Type 0 where
    elsewhere : {name : Name} {class : ℕ} {r : Refusal} {place : Rattle.mg_text.specs.declared.place.Place.Place} →
        class_text core class ≡ Some name → Contains (map role_class (roles_in parts)) name →
        r ≡ refusal_at (codes "MadeElsewhere") place name → IsMadeElsewhere (Makes place class) r

  -- this is the `main` of the class of this name
  pub record IsMainOf (name : Name) (method : Method) : Type 0 where
    pub there : Contains core.methods method
    pub main : is_main method.kind ≡ true
    pub class : class_text core method.class ≡ Some name

  -- a role whose `main` has no making of its role
  pub record MakesNone (main : RoleMain) (r : Refusal) : Type 0 where
    pub method : Method
    pub is : IsMainOf main.class method
    pub none : (class : ℕ) → class_numbered core (role_class main.role) ≡ Some class → uses_beside_making class method.body ≡ None
    pub said : r ≡ refusal_at (codes "NotMade") method.place main.role

  -- what each condition answers: its first refusal, or that it has none
  abbrev pub Of : Condition → Option Refusal → Type 0
  Of Unplayed = Judged IsUnplayed listed
  Of Stranger = Judged IsStranger mains
  Of SharedMain = Judged SharesMain (with_earlier mains)
  Of NoProtocol = Judged HasNoProtocol listed
  Of OtherProtocol = Judged HasOther listed
  Of OwnSession = Judged IsOwnSession uses
  Of MadeElsewhere = Judged IsMadeElsewhere uses
  Of NotMade = Judged MakesNone mains
