use Rattle.jv_names.proofs.Seen as laws
use Rattle.jv_names.proofs.follows_the_same.Goals as goal

pub returns : goal.returns
returns c = laws.follows_the_same
