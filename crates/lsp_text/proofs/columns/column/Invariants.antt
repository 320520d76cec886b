use Rattle.std.proofs.Common.{◌≡◌, ◌+◌, ◌≤◌, length, drop}
use Rattle.std.specs.Str.{chars}
use Rattle.lsp_text.specs.Units.{units}
use Rattle.lsp_text.specs.inner.Fitting.{fitting}
use Rattle.lsp_text.proofs.columns.column.Given as goal

abbrev pub invariant-loop-character : goal.invariant-loop-character
invariant-loop-character l =
    record {
      counts : l.count + units l.counted (fitting l.within l.left (drop (length l.yielded) (chars l.line)))
          ≡ units l.counted (fitting l.within l.limit (chars l.line));
      short : l.count + units l.counted (drop (length l.yielded) (chars l.line)) ≤ length l.line;
    }
