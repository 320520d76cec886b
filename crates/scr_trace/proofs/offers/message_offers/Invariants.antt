use Rattle.std.proofs.Common.{◌≡◌, ◌≤◌, None, map, drop, length}
use Rattle.scr_tree.specs.Local.{tree_of}
use Rattle.scr_trace.specs.Walking.{calls_offered, methods_of}
use Rattle.scr_trace.specs.inner.Offering.{edge_calls, messages_in}
use Rattle.scr_trace.specs.inner.View.{edge_of, drafts_of, work_of}
use Rattle.scr_trace.proofs.offers.message_offers.Given as goal

abbrev pub invariant-loop-i : goal.invariant-loop-i
invariant-loop-i l = record {
  within : l.i ≤ length l.arrows;
  made : calls_offered l.offers.items ≡ edge_calls (tree_of l.local).me
      (map (edge_of (work_of l.laid) None) (drafts_of (drop l.i l.arrows)));
  named : methods_of l.offers.items ≡ messages_in (drafts_of (drop l.i l.arrows));
}

abbrev pub decreases-loop-i : goal.decreases-loop-i
decreases-loop-i l = l.i
