use Rattle.std.proofs.Common.{◌≤◌, ◌+◌, length}
use Rattle.ts_parse.specs.Tok.{typestates, tok_said, toks}
use Rattle.mg_read.proofs.Cuts.{SoFar}
use Rattle.ts_parse.proofs.Scans.{apart}
use Rattle.ts_parse.proofs.scan.scan_tokens.Given as goal

abbrev pub invariant-pieces : goal.invariant-pieces
invariant-pieces l =
    record {
      so_far : SoFar typestates apart tok_said l.file l.bytes (toks l.found.items) l.place l.offset l.rest;
      lines : l.place.line ≤ l.offset + 1;
      columns : l.place.column ≤ l.offset + l.offset + 1;
    }

abbrev pub decreases-pieces : goal.decreases-pieces
decreases-pieces l = length l.rest
