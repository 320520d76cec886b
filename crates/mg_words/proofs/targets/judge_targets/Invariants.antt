use Rattle.std.proofs.Common.{length, option_map}
use Rattle.mg_words.specs.inner.Judging.{AreTargeted}
use Rattle.mg_words.proofs.targets.judge_targets.Given as goal

abbrev pub invariant-loop-word : goal.invariant-loop-word
invariant-loop-word l = AreTargeted l.words (option_map (λ w. w.now) l.package_name) (option_map (λ w. w.now) l.folder) l.rest

abbrev pub decreases-loop-word : goal.decreases-loop-word
decreases-loop-word l = length l.rest
