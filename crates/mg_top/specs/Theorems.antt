-- What holds of all that commands give, whatever the words and the files are.
use Rattle.mg_runs.specs.Laws.{CoursesAreRuns, EachOrderHasACourse}
use Rattle.mg_typed_law.specs.Laws.{CompiledClassesAreTypable, RunsAreTypable, TypableRunsNeverBad}
use Rattle.mg_top.specs.Fitting.{FitNeverSticks}

pub record Theorems : Type 0 where
  -- each course that `run` and `load` give is a run with all that is promised of one
  pub runs : CoursesAreRuns
  -- each order of turns that names every role has a course
  pub some : EachOrderHasACourse
  -- where files fit a global protocol no role gets stuck, in whatever order the roles take turns, also where the class files that are
  -- written of them are run as they are
  pub never_stuck : FitNeverSticks
  -- each method of the class files that `compile` gives has a typing, and each of those that `run` and `load` run
  pub written : CompiledClassesAreTypable
  pub typable : RunsAreTypable
  -- where each method of class files from outside has one, no role of their run ends badly
  pub never_bad : TypableRunsNeverBad
