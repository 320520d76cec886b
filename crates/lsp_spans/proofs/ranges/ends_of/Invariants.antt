use Rattle.std.proofs.Common.{◌≡◌, ◌+◌, take, drop, map}
use Rattle.lsp_spans.specs.Words.{word_len}
use Rattle.lsp_spans.proofs.ranges.ends_of.Given as goal

abbrev pub invariant-loop-start : goal.invariant-loop-start
invariant-loop-start l = l.ends.items ≡ map (λ o. o + word_len (drop o l.text)) (take l.start-index l.starts)
