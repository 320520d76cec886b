use Rattle.gen_links.proofs.Few.{cores_are_small}
use Rattle.gen_links.proofs.members_are_few.Goals as goal

pub returns : goal.returns
returns c = record { few = cores_are_small }
