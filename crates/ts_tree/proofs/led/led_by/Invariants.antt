use Rattle.std.proofs.Common.{◌≡◌, drop}
use Rattle.ts_tree.specs.Calls.{by_label}
use Rattle.ts_tree.proofs.led.led_by.Given as goal

abbrev pub invariant-loop-branch : goal.invariant-loop-branch
invariant-loop-branch l = by_label (drop l.branch-index l.branch-items) l.label ≡ by_label l.branch-items l.label
