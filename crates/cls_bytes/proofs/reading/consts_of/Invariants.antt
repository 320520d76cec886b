use Rattle.std.proofs.Common.{◌≡◌, ◌-◌}
use Rattle.mg_read.proofs.Loop.{with_front}
use Rattle.cls_bytes.specs.Reading.{counted, const_at}
use Rattle.cls_bytes.proofs.reading.consts_of.Given as goal

abbrev pub invariant-loop : goal.invariant-loop
invariant-loop l = with_front l.constants.items (counted const_at (l.count - l.counter) l.rest) ≡ counted const_at l.count l.bytes
