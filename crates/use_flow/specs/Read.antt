-- Which tables a context reads, by the states that calls lead to.
use Rattle.std.specs.Prelude.{◌≡◌, Bool, List}
use Rattle.jv_core.specs.Tree.{Program}
use Rattle.use_rules.specs.declared.key.Context.{Context}
use Rattle.use_rules.specs.declared.key.TableKey.{TableKey}
use Rattle.use_rules.specs.Keys.{AreReached}
use Rattle.use_rules.specs.Reads.{reads}

pub record AreRead (p : Program) (c : Context) (ks : List TableKey) : Type 0 where
  pub reached : List (List Bool)
  pub are : AreReached p reached
  pub is : ks ≡ reads p reached c
