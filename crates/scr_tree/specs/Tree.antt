-- The tree of a local protocol's text, as definitions speak of it: what is written where.
use Rattle.std.specs.Prelude.{ℕ, List, [], ◌∷◌, map}
use Rattle.mg_text.specs.Call.{Name}
use Rattle.mg_text.specs.declared.place.Place.{Place}
use Rattle.scr_tree.specs.declared.syntax.Message.{Message}

mutual
  -- a list of statements: none, or one and those that stand behind it
  pub data Statements : Type 0 where
    Nothing : Statements
    Says : Message → Statements → Statements
    Choice : Place → (at : Name) → Branches → Statements → Statements
    Rec : Place → (name : Name) → (body : Statements) → Statements → Statements
    Continue : Place → (name : Name) → Statements → Statements
    -- goes on as the protocol of this name
    Do : Place → (name : Name) → Statements → Statements

  -- the branches of a choice
  pub data Branches : Type 0 where
    NoBranch : Branches
    Branch : Statements → Branches → Branches

-- a protocol behind the first of a file, with the place of its name
pub record PartTree : Type 0 where
  pub place : Place
  pub name : Name
  pub body : Statements

-- A local protocol: the number of its file, its name, the role that it is of, all its roles, what that role does,
-- and the other protocols of the file, which have the same role and roles.
pub record LocalTree : Type 0 where
  pub file : ℕ
  pub name : Name
  pub me : Name
  pub roles : List Name
  pub body : Statements
  pub others : List PartTree

-- what a protocol of this name says
pub record Titled : Type 0 where
  pub name : Name
  pub body : Statements

abbrev pub body_in : Titled → Statements
body_in t = t.body

abbrev pub other : PartTree → Titled
other p = record { name = p.name; body = p.body }

-- all protocols of the file, in the order of the text; it begins with the first
abbrev pub titled : LocalTree → List Titled
titled local = record { name = local.name; body = local.body } ∷ map other local.others

abbrev pub bodies_in : LocalTree → List Statements
bodies_in local = map body_in (titled local)

-- statements that are messages alone
abbrev pub says : List Message → Statements
says [] = Nothing
says (message ∷ messages) = Says message (says messages)
