use Rattle.std.proofs.Common.{◌≡◌, ◌≤◌, ◌+◌, ◌-◌, length, drop, false}
use Rattle.lsp_spans.specs.Words.{begins_word, path_from}
use Rattle.lsp_spans.proofs.words.path_len.Given as goal

abbrev pub invariant-joints : goal.invariant-joints
invariant-joints l = record {
  within : l.len ≤ length l.bytes;
  ended : begins_word (drop l.len l.bytes) ≡ false;
  left : l.len + path_from 0 (drop l.len l.bytes) ≡ path_from 0 l.bytes;
}

abbrev pub decreases-joints : goal.decreases-joints
decreases-joints l = length l.bytes - l.len
