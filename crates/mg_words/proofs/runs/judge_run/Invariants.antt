use Rattle.std.proofs.Common.{length}
use Rattle.mg_words.specs.inner.Judging.{asked_of, AreRead, Keeps}
use Rattle.mg_words.proofs.runs.judge_run.Given as goal

abbrev pub invariant-loop-word : goal.invariant-loop-word
invariant-loop-word l = record {
  read : AreRead l.words l.asked l.rest;
  keeps : Keeps l.input (asked_of l.asked).folder;
}

abbrev pub decreases-loop-word : goal.decreases-loop-word
decreases-loop-word l = length l.rest
