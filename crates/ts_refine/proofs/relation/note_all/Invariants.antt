use Rattle.std.proofs.Common.{◌≡◌, length, take}
use Rattle.mg_sets.specs.Words.{bit}
use Rattle.ts_refine.specs.inner.Marking.{bit_number, AreMarked}
use Rattle.ts_refine.proofs.relation.note_all.Given as goal

abbrev pub invariant-loop-pair : goal.invariant-loop-pair
invariant-loop-pair l = record {
  wide : length l.words ≡ length l.initial.words;
  noted : AreMarked (bit_number (length l.initial.words) l.a l.b) (bit l.words) (take l.pair-index l.pairs);
}
