use Rattle.std.proofs.Common.{ℕ, List, drop, string_bytes}
use Rattle.lsp_text.specs.Changes.{AreApplied}
use Rattle.lsp_text.proofs.changes.apply_all.Given as goal

abbrev pub invariant-loop-change : goal.invariant-loop-change
invariant-loop-change l =
    (last : List ℕ) → AreApplied l.encoding (drop l.change-index l.changes) (string_bytes l.text) last
    → AreApplied l.encoding l.changes (string_bytes l.initial.text) last
