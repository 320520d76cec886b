-- By `grind` at once, since a search finds nothing here.
use Rattle.std.proofs.Common.{arith}
use Rattle.scr_parse.proofs.Views.{alones}
use Rattle.scr_parse.specs.inner.Reading.{do_at}
use Rattle.scr_parse.proofs.body.do_of.Goals as goal

pub returns : goal.returns
unfolding do_at
returns c = grind (arith, alones)
