-- All that is met under the least tables of a program: the demands that fail, and what its calls are made on.
use Rattle.std.specs.Prelude.{◌≡◌, map}
use Rattle.jv_core.specs.Tree.{Program}
use Rattle.use_rules.specs.Tables.{all_failed, all_sights, Least}
use Rattle.use_flow.specs.View.{tables_of, reached_of, sight_of, AreFor}
use Rattle.use_verdict.specs.declared.met.Usages.{Usages}

-- the least tables of a program, and all that is met under them, in the order of its contexts
pub record AreUsages (p : Program) (u : Usages) : Type 0 where
  pub made : AreFor p u.tables
  pub least : Least p (reached_of u.tables) (tables_of u.tables)
  pub failed : u.failed.items ≡ all_failed p (reached_of u.tables) (tables_of u.tables)
  pub sights : map sight_of u.sights.items ≡ all_sights p (reached_of u.tables) (tables_of u.tables)
