use Rattle.std.proofs.Common.{◌+◌, ◌-◌, ◌*◌, length}
use Rattle.cls_layout.proofs.Laid.{Laying}
use Rattle.cls_layout.proofs.layout.lay_out.Given as goal

abbrev pub invariant-fields : goal.invariant-fields
invariant-fields l = Laying l.bytes l.layout

abbrev pub decreases-fields : goal.decreases-fields
decreases-fields l = 8589934592 * (length l.bytes - l.layout.at) + length l.layout.due.items
