use Rattle.std.proofs.Common.{length}
use Rattle.mg_page.specs.Pieces.{IsText}
use Rattle.mg_page.proofs.Asked.{AreRead}
use Rattle.mg_page.proofs.asking.words_in.Given as goal

abbrev pub invariant-loop-rest : goal.invariant-loop-rest
invariant-loop-rest l = AreRead IsText l.fn.bytes l.rest l.words.items

abbrev pub decreases-loop-rest : goal.decreases-loop-rest
decreases-loop-rest l = length l.rest
