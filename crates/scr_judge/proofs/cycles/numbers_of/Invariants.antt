use Rattle.std.proofs.Common.{◌≡◌, ◌++◌, drop}
use Rattle.scr_judge.specs.inner.Round.{numbers_of}
use Rattle.scr_judge.specs.inner.View.{told_names}
use Rattle.scr_judge.proofs.cycles.numbers_of.Given as goal

abbrev pub invariant-loop-name : goal.invariant-loop-name
invariant-loop-name l = numbers_of l.names (told_names l.sought) ≡ l.numbers.items ++ numbers_of l.names
    (told_names (drop l.name-index l.sought))
