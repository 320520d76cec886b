use Rattle.fit_judge.specs.inner.Used.{Talks}
use Rattle.fit_judge.proofs.Walks.{Walk}
use Rattle.fit_judge.proofs.used.own_session.Given as goal

abbrev pub invariant-loop-used : goal.invariant-loop-used
invariant-loop-used l = Walk Talks l.uses l.used-index
