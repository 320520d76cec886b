use Rattle.world_typed_law.proofs.Suiting.{worlds_never_bad}
use Rattle.world_typed_law.proofs.typable_worlds_never_bad.Goals as goal

pub returns : goal.returns
returns c = worlds_never_bad
