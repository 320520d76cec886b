use Rattle.std.proofs.Common.{◌≡◌, ◌≤◌, Some, map, drop, length}
use Rattle.scr_trace.specs.inner.View.{edge_of, drafts_of, work_of}
use Rattle.stm_gen.specs.Laid.{branches_of}
use Rattle.stm_gen.proofs.methods.branches_of.Given as goal

abbrev pub invariant-loop-i : goal.invariant-loop-i
invariant-loop-i l = record {
  within : l.i ≤ length l.arrows;
  made : l.branches.items ≡ branches_of (map (edge_of (work_of l.laid) (Some l.behind)) (drafts_of (drop l.i l.arrows)));
}

abbrev pub decreases-loop-i : goal.decreases-loop-i
decreases-loop-i l = l.i
