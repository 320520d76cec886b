use Rattle.insp_rules.proofs.Numbers.{canonical_numbers}
use Rattle.insp_rules.proofs.groups_are_numbered.Goals as goal

pub returns : goal.returns
returns c = canonical_numbers
