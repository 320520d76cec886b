use Rattle.std.proofs.Common.{◌≡◌, ◌++◌, drop}
use Rattle.cls_kinds.specs.Numbers.{joined_all}
use Rattle.cls_kinds.proofs.rows.join_rows.Given as goal

abbrev pub invariant-loop-at : goal.invariant-loop-at
invariant-loop-at l = l.row.items ++ joined_all (drop l.at l.old) (drop l.at l.new) ≡ joined_all l.old l.new
