use Rattle.std.proofs.Common.{◌≡◌, take}
use Rattle.lsp_spans.specs.inner.Pairs.{ranges}
use Rattle.lsp_spans.proofs.ranges.between.Given as goal

abbrev pub invariant-loop-place : goal.invariant-loop-place
invariant-loop-place l = l.ranges.items ≡ ranges (take l.place l.starts) (take l.place l.ends)
