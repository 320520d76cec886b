use Rattle.cls_kinds.proofs.Naming.{joined_is, fits_in_is}
use Rattle.cls_kinds.proofs.laws.numbers_say_kinds.Goals as goal

pub returns-clause-joins : goal.returns-clause-joins
returns-clause-joins c = joined_is

pub returns-clause-fits : goal.returns-clause-fits
returns-clause-fits c = fits_in_is
