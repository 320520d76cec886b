use Rattle.std.proofs.Common.{◌≤◌, ◌+◌, length}
use Rattle.lsp_symbols.specs.Tokens.{shared, said}
use Rattle.mg_read.proofs.Cuts.{SoFar}
use Rattle.lsp_symbols.proofs.Scans.{apart}
use Rattle.lsp_symbols.proofs.tokens.scan_tokens.Given as goal

abbrev pub invariant-pieces : goal.invariant-pieces
invariant-pieces l =
    record {
      so_far : SoFar shared apart said 0 l.bytes l.found.items l.place l.offset l.rest;
      lines : l.place.line ≤ l.offset + 1;
      columns : l.place.column ≤ l.offset + l.offset + 1;
    }

abbrev pub decreases-pieces : goal.decreases-pieces
decreases-pieces l = length l.rest
