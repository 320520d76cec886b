use Rattle.std.proofs.Common.{◌≡◌, ◌≤◌, drop, length}
use Rattle.scr_trace.specs.inner.Offering.{labels_in}
use Rattle.scr_trace.specs.inner.View.{drafts_of}
use Rattle.scr_trace.proofs.offers.labels_of.Given as goal

abbrev pub invariant-loop-i : goal.invariant-loop-i
invariant-loop-i l = record {
  within : l.i ≤ length l.arrows;
  made : l.labels.items ≡ labels_in (drafts_of (drop l.i l.arrows));
}

abbrev pub decreases-loop-i : goal.decreases-loop-i
decreases-loop-i l = l.i
