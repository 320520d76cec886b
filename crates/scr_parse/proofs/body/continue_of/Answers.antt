-- By `grind` at once, since a search finds nothing here.
use Rattle.std.proofs.Common.{arith}
use Rattle.scr_parse.proofs.Views.{alones}
use Rattle.scr_parse.specs.inner.Reading.{continue_with}
use Rattle.scr_parse.proofs.body.continue_of.Goals as goal

pub returns : goal.returns
unfolding continue_with
returns c = grind (arith, alones)
