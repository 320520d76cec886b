use Rattle.std.proofs.Common.{◌≡◌, ◌++◌, map, length, string_bytes}
use Rattle.std.specs.Vec.Iter.{into_iter_items, into_iter_len}
use Rattle.mungo.proofs.rest_of.Given as goal

abbrev pub invariant-loop-word : goal.invariant-loop-word
invariant-loop-word l = record {
  count : into_iter_len l.word-iterator ≡ length (into_iter_items l.word-iterator);
  moved : l.words.items ++ map string_bytes (into_iter_items l.word-iterator) ≡ map string_bytes (into_iter_items l.fn.args);
}
