-- Typestates, as definitions speak of them.
use Rattle.std.specs.Prelude.{Bool, List}
use Rattle.mg_text.specs.Call.{Name}
use Rattle.ts_tree.specs.declared.parts.TypeName.{TypeName}
use Rattle.ts_tree.specs.declared.parts.To.{To}
use Rattle.ts_tree.specs.declared.parts.Branch.{Branch}

-- where the calls of a method lead: each to one place, or by the label that it answers with
pub data Target : Type 0 where
  One : To → Target
  ByAnswer : List Branch → Target

-- a method that a state offers
pub record Method : Type 0 where
  pub result : TypeName
  pub name : Name
  pub params : List TypeName
  pub target : Target

pub record State : Type 0 where
  pub name : Name
  pub methods : List Method
  -- whether it is marked `drop: end`: an object may be left in it
  pub drops : Bool

pub record Typestate : Type 0 where
  pub name : Name
  pub states : List State
