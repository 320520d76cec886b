-- The theorems of what commands give.
use Rattle.mg_runs.specs.Laws.{CoursesAreRuns, EachOrderHasACourse}
use Rattle.mg_typed_law.specs.Laws.{CompiledClassesAreTypable, RunsAreTypable, TypableRunsNeverBad}
use Rattle.mg_top.specs.Theorems.{Theorems}
use Rattle.mg_top.proofs.FitLemmas.{never_sticks}

pub theorems : CoursesAreRuns → EachOrderHasACourse → CompiledClassesAreTypable → RunsAreTypable → TypableRunsNeverBad → Theorems
theorems runs some written typable never = record {
  runs = runs;
  some = some;
  never_stuck = never_sticks runs;
  written = written;
  typable = typable;
  never_bad = never;
}
