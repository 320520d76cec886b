use Rattle.std.proofs.Common.{◌≡◌, ◌-◌, map}
use Rattle.cls_tree.specs.View.{member_of}
use Rattle.mg_read.proofs.Loop.{with_front}
use Rattle.cls_bytes.specs.Reading.{counted, member_at}
use Rattle.cls_bytes.proofs.reading.members_of.Given as goal

abbrev pub invariant-loop : goal.invariant-loop
invariant-loop l = with_front (map member_of l.members.items) (counted (member_at l.pool l.are_methods) (l.count - l.counter) l.rest) ≡
    counted (member_at l.pool l.are_methods) l.count l.bytes
