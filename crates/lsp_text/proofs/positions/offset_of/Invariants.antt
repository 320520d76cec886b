use denote.Shadow.{shadow}
use denote.Text.{Utf8}
use Rattle.std.proofs.Common.{◌≤◌, length}
use Rattle.lsp_text.specs.Lines.{IsBehind}
use Rattle.lsp_text.proofs.positions.offset_of.Given as goal

abbrev pub invariant-loop-line : goal.invariant-loop-line
invariant-loop-line l =
    record {
      text : shadow (Utf8 l.rest);
      behind : IsBehind l._line l.text l.rest;
      shorter : length l.rest ≤ length l.text;
    }
