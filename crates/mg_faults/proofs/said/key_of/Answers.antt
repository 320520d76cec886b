use Rattle.std.proofs.Common.{refl}
use Rattle.mg_faults.proofs.Saying.{key_is}
use Rattle.mg_faults.proofs.said.key_of.Goals as goal

pub returns : goal.returns
returns c = λ core e. key_is core c.args.demand.now c.args.refusal.now _ e c.kind.ensures refl refl refl c.in_ok-name.ensures
