use Rattle.gen_rules.proofs.Files as files
use Rattle.gen_rules.proofs.Types as types
use Rattle.gen_rules.proofs.templates_decide.Goals as goal

pub returns-clause-code : goal.returns-clause-code
returns-clause-code c = files.one_code

pub returns-clause-types : goal.returns-clause-types
returns-clause-types c = types.types_agree
