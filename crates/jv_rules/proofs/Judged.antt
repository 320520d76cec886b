-- The faults of small programs are computed.
use Rattle.std.proofs.Common.{◌≡◌, [], Option, Some, None, refl, subst}
use Rattle.std.specs.Prelude.{codes}
use Rattle.mg_read.specs.Culprit.{Culprit, culprit}
use Rattle.jv_rules.specs.declared.condition.Condition.{Condition}
use Rattle.jv_rules.specs.declared.condition.Condition.TheVariants as conditions
use Rattle.jv_rules.specs.Program.{Program}
use Rattle.jv_rules.specs.Faults.{IsFault}
use Rattle.jv_rules.specs.Examples.{at, counting, for_ever, holding, AreJudged}
use Rattle.jv_rules.specs.inner.Deciding.{method_fault}
use Rattle.jv_rules.proofs.Deciding.{method_fault-right}

computed : (program : Program) (r : Option (Condition × Culprit)) → method_fault program ≡ r → IsFault program r
computed program r e = subst (IsFault program) e (method_fault-right program)

missing_return : method_fault counting ≡ Some (conditions.MissingReturn, culprit (at 1 51) [])
missing_return = refl

runs_on : method_fault for_ever ≡ None
runs_on = refl

args_may_move : method_fault holding ≡ Some (conditions.ArgsMayMove, culprit (at 6 5) (codes "c"))
args_may_move = refl

pub are_judged : AreJudged
are_judged = record {
  missing_return = computed counting _ missing_return;
  runs_on = computed for_ever _ runs_on;
  args_may_move = computed holding _ args_may_move;
}
