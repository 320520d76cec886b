use Rattle.std.proofs.Common.{length}
use Rattle.mg_words.specs.inner.Judging.{AreNamed}
use Rattle.mg_words.proofs.fits.judge_fit.Given as goal

abbrev pub invariant-loop-word : goal.invariant-loop-word
invariant-loop-word l = AreNamed l.words l.names l.rest

abbrev pub decreases-loop-word : goal.decreases-loop-word
decreases-loop-word l = length l.rest
