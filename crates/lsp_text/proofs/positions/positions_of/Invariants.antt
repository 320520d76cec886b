use denote.Shadow.{shadow}
use denote.Text.{Utf8}
use Rattle.std.proofs.Common.{◌+◌, ◌≤◌, length, take}
use Rattle.lsp_text.specs.Lines.{IsBehind}
use Rattle.lsp_text.specs.Positions.{ArePositionsOf}
use Rattle.lsp_text.proofs.positions.positions_of.Given as goal

abbrev pub invariant-loop-offset : goal.invariant-loop-offset
invariant-loop-offset l =
    record {
      text : shadow (Utf8 l.rest);
      behind : IsBehind l.line l.text l.rest;
      shorter : l.line + length l.rest ≤ length l.text;
      so_far : ArePositionsOf l.encoding l.text (take l.offset-index l.offsets) l.positions.items;
    }
