use Rattle.std.proofs.Common.{◌≡◌, ◌≤◌, length, map, drop}
use Rattle.scr_tree.specs.Tree.{other}
use Rattle.scr_tree.specs.View.{part_of}
use Rattle.scr_trace.specs.inner.Laying.{parts_laid}
use Rattle.scr_trace.specs.inner.View.{number_by, work_of}
use Rattle.scr_trace.proofs.laying.lay_others.Given as goal

abbrev pub invariant-loop-i : goal.invariant-loop-i
invariant-loop-i l = record {
  within : l.i ≤ length l.others;
  laid : work_of l.out ≡ parts_laid l.me (number_by l.names) (map other (map part_of (drop l.i l.others))) (work_of l.fn.out);
}

abbrev pub decreases-loop-i : goal.decreases-loop-i
decreases-loop-i l = l.i
