use Rattle.std.proofs.Common.{List}
use Rattle.jv_core.specs.Tree.{Program}
use Rattle.scr_global_tree.specs.Global.{tree_of}
use Rattle.mg_sources.specs.Reading.{Part}
use Rattle.mg_fits.specs.Conditions.{IsStranger}
use Rattle.fit_judge.proofs.Walks.{Walk}
use Rattle.fit_judge.proofs.roles.stranger.Given as goal

abbrev pub invariant-loop-main : goal.invariant-loop-main
invariant-loop-main l =
    (parts : List Part) (core : Program) → Walk (IsStranger (tree_of l.global) parts core l.mains) l.mains l.main-index
