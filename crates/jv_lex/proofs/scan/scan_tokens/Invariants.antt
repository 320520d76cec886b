use Rattle.std.proofs.Common.{◌≤◌, ◌+◌, length}
use Rattle.std.specs.Str.{IsUtf8}
use Rattle.jv_lex.proofs.Scans.{SoFar}
use Rattle.jv_lex.proofs.scan.scan_tokens.Given as goal

abbrev pub invariant-pieces : goal.invariant-pieces
invariant-pieces l =
    record {
      so_far : SoFar l.file l.bytes l.found.items l.place l.offset l.rest;
      utf8 : IsUtf8 l.rest;
      lines : l.place.line ≤ l.offset + 1;
      columns : l.place.column ≤ l.offset + l.offset + 1;
    }

abbrev pub decreases-pieces : goal.decreases-pieces
decreases-pieces l = length l.rest
