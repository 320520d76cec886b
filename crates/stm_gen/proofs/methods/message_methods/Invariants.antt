use Rattle.std.proofs.Common.{◌≡◌, ◌≤◌, None, map, drop, length}
use Rattle.scr_tree.specs.Local.{tree_of}
use Rattle.scr_trace.specs.inner.View.{edge_of, drafts_of, work_of}
use Rattle.ts_tree.specs.View.{method_of as kept_method}
use Rattle.stm_gen.specs.Laid.{methods_of}
use Rattle.stm_gen.proofs.methods.message_methods.Given as goal

abbrev pub invariant-loop-i : goal.invariant-loop-i
invariant-loop-i l = record {
  within : l.i ≤ length l.arrows;
  made : map kept_method l.methods.items ≡ methods_of (tree_of l.local).me
      (map (edge_of (work_of l.laid) None) (drafts_of (drop l.i l.arrows)));
}

abbrev pub decreases-loop-i : goal.decreases-loop-i
decreases-loop-i l = l.i
