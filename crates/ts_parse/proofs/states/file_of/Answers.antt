-- By `grind` at once, since a search finds nothing here.
use Rattle.std.proofs.Common.{arith}
use Rattle.std.proofs.lemmas.Grind.{common_steps}
use Rattle.ts_parse.specs.inner.Reading.{file_of}
use Rattle.ts_parse.proofs.states.file_of.Goals as goal

pub returns-in-empty : goal.returns-in-empty
unfolding file_of
returns-in-empty c = grind (arith, common_steps)

pub returns-in-len1-up : goal.returns-in-len1-up
unfolding file_of
returns-in-len1-up c = grind (arith, common_steps)
