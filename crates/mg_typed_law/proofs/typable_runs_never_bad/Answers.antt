use Rattle.mg_typed_law.proofs.Typable.{runs_never_bad}
use Rattle.mg_typed_law.proofs.typable_runs_never_bad.Goals as goal

pub returns : goal.returns
returns c = runs_never_bad c.typable_worlds_never_bad.ensures
