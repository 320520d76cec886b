use Rattle.std.proofs.Common.{◌≡◌, ◌+◌, drop, false}
use Rattle.lsp_spans.specs.Words.{run_len}
use Rattle.lsp_offers.proofs.spots.word_len.Given as goal

abbrev pub invariant-loop-byte : goal.invariant-loop-byte
invariant-loop-byte l = record {
  index : l.count ≡ l.byte-index;
  left : l.count + run_len false (drop l.count l.bytes) ≡ run_len false l.bytes;
}
