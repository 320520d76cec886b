use Rattle.std.proofs.Common.{◌≡◌, ◌-◌, map}
use Rattle.cls_tree.specs.View.{inner_of}
use Rattle.mg_read.proofs.Loop.{with_front}
use Rattle.cls_bytes.specs.Reading.{counted, inner_at}
use Rattle.cls_bytes.proofs.reading.inners_of.Given as goal

abbrev pub invariant-loop : goal.invariant-loop
invariant-loop l = with_front (map inner_of l.inners.items) (counted inner_at (l.count - l.counter) l.rest) ≡ counted inner_at l.count
    l.bytes
