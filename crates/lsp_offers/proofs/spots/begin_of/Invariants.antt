use Rattle.std.proofs.Common.{◌≡◌, ◌-◌}
use Rattle.lsp_offers.specs.Spots.{begin_of}
use Rattle.lsp_offers.proofs.spots.begin_of.Given as goal

abbrev pub invariant-loop-passed : goal.invariant-loop-passed
invariant-loop-passed l = begin_of l.dots l.text (l.offset - l.passed) ≡ begin_of l.dots l.text l.offset
