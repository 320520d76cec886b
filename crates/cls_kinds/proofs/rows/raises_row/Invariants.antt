use Rattle.std.proofs.Common.{◌≡◌, drop}
use Rattle.cls_kinds.specs.Numbers.{is_raised}
use Rattle.cls_kinds.proofs.rows.raises_row.Given as goal

abbrev pub invariant-loop-at : goal.invariant-loop-at
invariant-loop-at l = is_raised (drop l.at l.old) (drop l.at l.new) ≡ is_raised l.old l.new
