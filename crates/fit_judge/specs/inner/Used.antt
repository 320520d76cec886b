-- For private clauses: uses that no role has, and `main`s that make none.
use Rattle.std.specs.Prelude.{◌≡◌, ℕ, Bool, true, List, map, Contains, Option, Some, None, String, codes}
use Rattle.std.specs.Option.{is_none}
use Rattle.std.specs.HashMap.{HashMap, get_by_text}
use Rattle.mg_text.specs.Call.{Name}
use Rattle.mg_text.specs.declared.place.Place.{Place}
use Rattle.stm_acts.specs.Played.{role_class}
use Rattle.jv_tree.specs.BuiltIn.{session_method}
use Rattle.jv_core.specs.Tree.{Method, Program}
use Rattle.jv_core.specs.Lookup.{class_text, is_main}
use Rattle.vm_world_law.specs.declared.role.RoleMain.{RoleMain}
use Rattle.mg_refusal.specs.Refusals.{Refusal, refusal_at}
use Rattle.fit_uses.specs.declared.usage.Use.{Use}
use Rattle.fit_uses.specs.declared.usage.Use.TheVariants as uses
use Rattle.fit_uses.specs.Uses.{uses_beside_making}
use Rattle.fit_judge.specs.inner.Making.{made_by}

-- a call of a method of `Session`
abbrev pub Talks : Use → Refusal → Type 0
Talks (uses.Talks place call) r = r ≡ refusal_at (codes "OwnSession") place (session_method call).name
Talks (uses.Makes place class) r = ⊥

-- the making of an object of the class of one of these roles
abbrev pub MakesHeld : Program → List Name → Use → Refusal → Type 0
MakesHeld core roles (uses.Talks place call) r = ⊥
MakesHeld core roles (uses.Makes place class) r =
    (name : Name) × (class_text core class ≡ Some name) × Contains (map role_class roles) name
    × (r ≡ refusal_at (codes "MadeElsewhere") place name)

-- a method makes no object of this class
abbrev pub makes_none : Option ℕ → Method → Bool
makes_none None method = true
makes_none (Some class) method = is_none (uses_beside_making class method.body)

-- the `main` of a class of this name makes none, and stands there
pub record MakesNoneAt (core : Program) (mains : List RoleMain) (name : Name) (place : Place) : Type 0 where
  pub method : Method
  pub there : Contains core.methods method
  pub main : is_main method.kind ≡ true
  pub class : class_text core method.class ≡ Some name
  pub none : makes_none (made_by core mains name) method ≡ true
  pub stands : method.place ≡ place

-- where there is such a `main`, the table has its place
pub record ArePlaces {A S : Type 0} (core : Program) (mains : List RoleMain) (places : HashMap (String A) Place S) : Type 0 where
  pub right : (name : Name) (place : Place) → get_by_text places name ≡ Some place → MakesNoneAt core mains name place
  pub all : (name : Name) (place : Place) → MakesNoneAt core mains name place → get_by_text places name ≡ None → ⊥
