use Rattle.std.proofs.Common.{◌-◌, length}
use Rattle.cls_tree.specs.View.{instrs_of}
use Rattle.cls_code.proofs.Layouts.{IsRead}
use Rattle.cls_code.proofs.reading.placed_in.Given as goal

abbrev pub invariant-code : goal.invariant-code
invariant-code l = IsRead l.bytes (instrs_of l.instrs.items) l.starts.items l.place

abbrev pub decreases-code : goal.decreases-code
decreases-code l = length l.bytes - l.place
