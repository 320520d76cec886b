use Rattle.std.proofs.Common.{◌≡◌, ◌<◌, ◌≤◌, ◌+◌, drop}
use Rattle.lsp_offers.specs.Repaired.{closing}
use Rattle.lsp_offers.proofs.repaired.closing.Given as goal

abbrev pub invariant-loop-index : goal.invariant-loop-index
invariant-loop-index l = record {
  some : 0 < l.opened;
  few : l.opened ≤ l.index + 1;
  left : closing l.opened (drop l.index l.bytes) ≡ closing 1 l.bytes;
}
