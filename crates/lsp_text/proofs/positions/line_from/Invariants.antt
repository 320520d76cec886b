use denote.Shadow.{shadow}
use denote.Text.{Utf8}
use Rattle.std.proofs.Common.{◌+◌, ◌≤◌, length}
use Rattle.lsp_text.specs.Lines.{IsBehind}
use Rattle.lsp_text.proofs.positions.line_from.Given as goal

abbrev pub invariant-lines : goal.invariant-lines
invariant-lines l =
    record {
      text : shadow (Utf8 l.rest);
      behind : IsBehind l.line l.text l.rest;
      reached : length l.text ≤ l.offset + length l.rest;
      shorter : l.line + length l.rest ≤ length l.text;
    }

abbrev pub decreases-lines : goal.decreases-lines
decreases-lines l = length l.rest
