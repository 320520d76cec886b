use Rattle.api_package.proofs.Heads as law
use Rattle.api_package.proofs.spelled.headed_are_spelled.Goals as goal

pub returns : goal.returns
returns c = law.headed_are_spelled
