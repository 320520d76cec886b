use Rattle.std.proofs.Common.{◌≡◌}
use Rattle.cls_code.specs.Inner.{words}
use Rattle.cls_code.proofs.reading.words_of.Given as goal

abbrev pub invariant-loop-index : goal.invariant-loop-index
invariant-loop-index l = l.numbers.items ≡ words l.index l.bytes
