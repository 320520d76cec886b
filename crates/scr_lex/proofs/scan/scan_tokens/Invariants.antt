use Rattle.std.proofs.Common.{◌≤◌, ◌+◌, length}
use Rattle.scr_tree.specs.Tok.{toks}
use Rattle.mg_read.proofs.Cuts.{SoFar}
use Rattle.scr_lex.specs.Pieces.{scribble, tok_said}
use Rattle.scr_lex.proofs.Scans.{apart}
use Rattle.scr_lex.proofs.scan.scan_tokens.Given as goal

abbrev pub invariant-pieces : goal.invariant-pieces
invariant-pieces l =
    record {
      so_far : SoFar scribble apart tok_said l.file l.bytes (toks l.found.items) l.place l.offset l.rest;
      lines : l.place.line ≤ l.offset + 1;
      columns : l.place.column ≤ l.offset + l.offset + 1;
    }

abbrev pub decreases-pieces : goal.decreases-pieces
decreases-pieces l = length l.rest
