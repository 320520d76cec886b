-- By `grind` at once, since a search finds nothing here.
use Rattle.std.proofs.Common.{arith}
use Rattle.scr_parse.specs.inner.Reading.{file_at}
use Rattle.std.proofs.lemmas.Grind.{common_steps}
use Rattle.scr_parse.proofs.file_of.Goals as goal

pub returns : goal.returns
unfolding file_at
returns c = grind (arith, common_steps)
