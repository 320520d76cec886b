use Rattle.std.proofs.Common.{◌≡◌, ℕ, ◌+◌, ◌<◌, ◌≤◌, length}
use Rattle.lsp_text.specs.Places.{here, place_at, IsReached}
use Rattle.lsp_text.proofs.places.spot_from.Given as goal

abbrev pub invariant-loop-byte : goal.invariant-loop-byte
invariant-loop-byte l =
    record {
      offset : l.offset ≡ l.fn.known.offset + l.byte-index;
      within : l.offset ≤ length l.text;
      so_far : (file : ℕ) → here file l.line l.column ≡ place_at file l.text l.offset;
      reached : 0 < l.offset → IsReached (here l.place.file l.line l.column) l.place;
      lines : l.line ≤ 1 + l.offset;
      columns : l.column ≤ 1 + l.offset;
    }
