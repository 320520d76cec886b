-- Where code of a resolved program calls a method of `Session`, and where it makes an object, in the order of the text.
use Rattle.std.specs.Prelude.{ℕ, Bool, true, false, List, [], ◌∷◌, ◌++◌, Option, Some, None, option_map, ◌||◌, nat_eq, if◌then◌else◌}
use Rattle.jv_core.specs.Tree.{Expr, Neg, Not, Binary, Protocol, Helper, Static, Equals, Concat, Session, New, Exprs, NoExpr, Argument}
use Rattle.jv_core.specs.Tree.{Stmt, Block, Local, Assign, If, IfElse, While, Do, Switch, Return, Print, Eval}
use Rattle.jv_core.specs.Tree.{Stmts, NoStmt, Then, Declare, Groups, NoGroup, Group}
use Rattle.fit_uses.specs.declared.usage.Use.{Use}
use Rattle.fit_uses.specs.declared.usage.Use.TheVariants.{Talks, Makes}

abbrev mutual
  pub uses_of : Expr → List Use
  uses_of (Neg p e) = uses_of e
  uses_of (Not p e) = uses_of e
  uses_of (Binary p op l r) = uses_of l ++ uses_of r
  uses_of (Protocol p receiver method args) = uses_of_all args
  uses_of (Helper p method args) = uses_of_all args
  uses_of (Static p method args) = uses_of_all args
  uses_of (Equals p e a) = uses_of e ++ uses_of a
  uses_of (Concat p e a) = uses_of e ++ uses_of a
  uses_of (Session p call args) = Talks p call ∷ uses_of_all args
  uses_of (New p class) = Makes p class ∷ []
  uses_of _ = []

  pub uses_of_all : Exprs → List Use
  uses_of_all NoExpr = []
  uses_of_all (Argument e rest) = uses_of e ++ uses_of_all rest

-- of the value of a `return`
abbrev pub uses_of_value : Option Expr → List Use
uses_of_value None = []
uses_of_value (Some e) = uses_of e

abbrev mutual
  pub uses_in : Stmt → List Use
  uses_in (Block p body end) = uses_in_all body
  uses_in (Local p slot e) = uses_of e
  uses_in (Assign p target e) = uses_of e
  uses_in (If p e s) = uses_of e ++ uses_in s
  uses_in (IfElse p e s r) = uses_of e ++ (uses_in s ++ uses_in r)
  uses_in (While p loop e s) = uses_of e ++ uses_in s
  uses_in (Do p loop s e) = uses_in s ++ uses_of e
  uses_in (Switch p e groups end) = uses_of e ++ uses_in_groups groups
  uses_in (Return p value) = uses_of_value value
  uses_in (Print p e) = uses_of e
  uses_in (Eval p e) = uses_of e
  uses_in _ = []

  pub uses_in_all : Stmts → List Use
  uses_in_all NoStmt = []
  uses_in_all (Then s rest) = uses_in s ++ uses_in_all rest
  uses_in_all (Declare p slot e scope) = uses_of e ++ uses_in_all scope

  pub uses_in_groups : Groups → List Use
  uses_in_groups NoGroup = []
  uses_in_groups (Group labels body end rest) = uses_in_all body ++ uses_in_groups rest

-- whether a `return` stands in a statement, at any depth, reached or not
abbrev mutual
  pub returns : Stmt → Bool
  returns (Block p body end) = returns_in body
  returns (If p e s) = returns s
  returns (IfElse p e s r) = returns s || returns r
  returns (While p loop e s) = returns s
  returns (Do p loop s e) = returns s
  returns (Switch p e groups end) = returns_in_groups groups
  returns (Return p value) = true
  returns _ = false

  pub returns_in : Stmts → Bool
  returns_in NoStmt = false
  returns_in (Then s rest) = returns s || returns_in rest
  returns_in (Declare p slot e scope) = returns_in scope

  pub returns_in_groups : Groups → Bool
  returns_in_groups NoGroup = false
  returns_in_groups (Group labels body end rest) = returns_in body || returns_in_groups rest

-- the expression makes an object of this class, and is nothing else
abbrev pub is_new_of : (class : ℕ) → Expr → Bool
is_new_of class (New p c) = nat_eq c class
is_new_of class _ = false

-- The making of an object of a class in the body of a method is the first statement of the body, itself and not one inside another, that
-- declares a local with a new object of the class, where no `return` stands in the statements before it.
-- These are the other uses of the body, where it has a making.
abbrev pub uses_beside_making : (class : ℕ) → Stmts → Option (List Use)
uses_beside_making class NoStmt = None
uses_beside_making class (Then s rest) =
    if returns s then None else option_map (λ uses. uses_in s ++ uses) (uses_beside_making class rest)
uses_beside_making class (Declare p slot e scope) =
    if is_new_of class e then Some (uses_in_all scope)
    else option_map (λ uses. uses_of e ++ uses) (uses_beside_making class scope)
