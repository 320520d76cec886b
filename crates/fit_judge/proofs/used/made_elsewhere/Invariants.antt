use Rattle.std.specs.Prelude.{List}
use Rattle.mg_text.specs.Call.{Name}
use Rattle.fit_judge.specs.inner.Making.{HoldsClasses}
use Rattle.fit_judge.specs.inner.Used.{MakesHeld}
use Rattle.fit_judge.proofs.Walks.{Walk}
use Rattle.fit_judge.proofs.used.made_elsewhere.Given as goal

abbrev pub invariant-loop-used : goal.invariant-loop-used
invariant-loop-used l = (roles : List Name) → HoldsClasses roles l.classes → Walk (MakesHeld l.core roles) l.uses l.used-index
