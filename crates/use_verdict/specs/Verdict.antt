-- Which programs are accepted, and which demand is named where one is not.
use Rattle.std.specs.Prelude.{◌≡◌, List, Bool, Some, slice_get}
use Rattle.jv_core.specs.Tree.{Program}
use Rattle.use_rules.specs.declared.demand.Demand.{Demand}
use Rattle.use_flow.specs.declared.held.Tables as held
use Rattle.use_rules.specs.Keys.{Tables, AreReached}
use Rattle.use_rules.specs.Tables.{all_failed, Solves, Least}
use Rattle.use_flow.specs.View.{tables_of, reached_of, AreFor}

-- tables that are the least of a program, and solve it
pub record AreAnswer (p : Program) (t : held.Tables) : Type 0 where
  pub made : AreFor p t
  pub least : Least p (reached_of t) (tables_of t)
  pub solves : Solves p (reached_of t) (tables_of t)

-- the answer for some program
pub record AnswerOf (t : held.Tables) : Type 0 where
  pub program : Program
  pub answer : AreAnswer program t

-- some tables solve a program
pub record IsAccepted (p : Program) : Type 0 where
  pub reached : List (List Bool)
  pub are : AreReached p reached
  pub tables : Tables
  pub solves : Solves p reached tables

-- the first demand that fails under the least tables, contexts in order
pub record FailsFirst (p : Program) (d : Demand) : Type 0 where
  pub reached : List (List Bool)
  pub are : AreReached p reached
  pub tables : Tables
  pub least : Least p reached tables
  pub first : slice_get (all_failed p reached tables) 0 ≡ Some d
