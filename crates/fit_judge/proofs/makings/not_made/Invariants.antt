use Rattle.std.proofs.Common.{List}
use Rattle.scr_global_tree.specs.Tree.{GlobalTree}
use Rattle.mg_sources.specs.Reading.{Part}
use Rattle.mg_fits.specs.Conditions.{MakesNone}
use Rattle.fit_judge.proofs.Walks.{Walk}
use Rattle.fit_judge.proofs.makings.not_made.Given as goal

abbrev pub invariant-loop-main : goal.invariant-loop-main
invariant-loop-main l = (g : GlobalTree) (ps : List Part) → Walk (MakesNone g ps l.core l.mains) l.mains l.main-index
