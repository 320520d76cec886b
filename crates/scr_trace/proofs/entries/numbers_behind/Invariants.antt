use Rattle.std.proofs.Common.{◌≡◌, ◌+◌, length, map, drop}
use Rattle.std.specs.HashMap.{get_by_text}
use Rattle.mg_text.specs.Call.{Name}
use Rattle.scr_tree.specs.Tree.{other}
use Rattle.scr_tree.specs.View.{part_of}
use Rattle.scr_trace.specs.inner.Laying.{number_among}
use Rattle.scr_trace.proofs.entries.numbers_behind.Given as goal

abbrev pub invariant-loop-i : goal.invariant-loop-i
invariant-loop-i l = record {
  counted : l.number + l.i ≡ length l.others;
  found : (q : Name) → get_by_text l.numbers q ≡ number_among (map other (map part_of (drop l.i l.others))) q;
}

abbrev pub decreases-loop-i : goal.decreases-loop-i
decreases-loop-i l = l.i
