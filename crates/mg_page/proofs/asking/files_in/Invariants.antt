use Rattle.std.proofs.Common.{length}
use Rattle.mg_page.specs.Pieces.{IsFile}
use Rattle.mg_page.proofs.Asked.{AreRead}
use Rattle.mg_page.proofs.asking.files_in.Given as goal

abbrev pub invariant-loop-rest : goal.invariant-loop-rest
invariant-loop-rest l = AreRead IsFile l.fn.bytes l.rest l.files.items

abbrev pub decreases-loop-rest : goal.decreases-loop-rest
decreases-loop-rest l = length l.rest
