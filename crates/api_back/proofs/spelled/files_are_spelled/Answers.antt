use Rattle.api_back.proofs.Files as law
use Rattle.api_back.proofs.spelled.files_are_spelled.Goals as goal

pub returns : goal.returns
returns c = law.files_are_spelled
