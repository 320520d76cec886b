use Rattle.std.proofs.Common.{◌≡◌, ◌-◌, map}
use Rattle.cls_tree.specs.View.{attr_of}
use Rattle.mg_read.proofs.Loop.{with_front}
use Rattle.cls_bytes.specs.Reading.{counted, attr_at}
use Rattle.cls_bytes.proofs.reading.attrs_of.Given as goal

abbrev pub invariant-loop : goal.invariant-loop
invariant-loop l = with_front (map attr_of l.attributes.items) (counted (attr_at l.pool l.of_method) (l.count - l.counter) l.rest) ≡ counted
    (attr_at l.pool l.of_method) l.count l.bytes
