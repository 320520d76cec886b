-- What a global protocol meets: it can be written, and none of the conditions is at fault.
use Rattle.std.specs.Prelude.{◌≡◌, ◌≢◌, ◌≤◌, ℕ, suc, max, List, [], length}
use Rattle.std.specs.List.{AllByRecursion}
use Rattle.mg_text.specs.Call.{Name}
use Rattle.scr_tree.specs.Words.{IsName}
use Rattle.scr_tree.specs.Valid.{AreDistinct}
use Rattle.scr_global.specs.Tree.{Statements, Nothing, Says, Choice, Rec, Continue, Branches, NoBranch, Branch}
use Rattle.scr_global.specs.Conditions.{AreClean}
use Rattle.scr_global_tree.specs.Tree.{GlobalTree}

abbrev mutual
  -- how many statements stand one inside another
  pub depth : Statements → ℕ
  depth Nothing = 0
  depth (Says m rest) = max 1 (depth rest)
  depth (Choice place at branches rest) = max (suc (depth_in branches)) (depth rest)
  depth (Rec place name body rest) = max (suc (depth body)) (depth rest)
  depth (Continue place name rest) = max 1 (depth rest)

  pub depth_in : Branches → ℕ
  depth_in NoBranch = 0
  depth_in (Branch b more) = max (depth b) (depth_in more)

abbrev mutual
  -- all names in the statements are names of Scribble, and each choice has a branch
  pub AreWritten : Statements → Type 0
  AreWritten Nothing = Unit {0}
  AreWritten (Says m rest) = IsName m.label × IsName m.from × IsName m.to × AreWritten rest
  AreWritten (Choice place at branches rest) = IsName at × HasBranches branches × AreWrittenIn branches × AreWritten rest
  AreWritten (Rec place name body rest) = IsName name × AreWritten body × AreWritten rest
  AreWritten (Continue place name rest) = IsName name × AreWritten rest

  pub AreWrittenIn : Branches → Type 0
  AreWrittenIn NoBranch = Unit {0}
  AreWrittenIn (Branch b more) = AreWritten b × AreWrittenIn more

  pub HasBranches : Branches → Type 0
  HasBranches NoBranch = ⊥
  HasBranches (Branch b more) = Unit {0}

-- the names are names of Scribble, a role is listed, each has a place, each choice has a branch, and statements nest 200 deep at most
pub record IsWritten (global : GlobalTree) : Type 0 where
  pub name : IsName global.name
  pub roles : AllByRecursion IsName global.roles
  pub some_role : global.roles ≢ []
  pub placed : length global.places ≡ length global.roles
  pub body : AreWritten global.body
  pub depth : depth global.body ≤ 200

-- a valid global protocol
pub record IsValid (global : GlobalTree) : Type 0 where
  pub written : IsWritten global
  pub roles_differ : AreDistinct global.roles
  pub clean : AreClean global.roles global.body
