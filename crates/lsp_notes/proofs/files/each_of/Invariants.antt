use Rattle.std.proofs.Common.{◌≡◌, List, length, map, take}
use Rattle.mg_refusal.specs.Refusals.{Refusal}
use Rattle.lsp_notes.specs.Told.{AreToldFrom}
use Rattle.lsp_notes.specs.inner.Groups.{groups_of}
use Rattle.lsp_notes.proofs.files.each_of.Given as goal

abbrev pub invariant-loop-file : goal.invariant-loop-file
invariant-loop-file l =
    (rs : List Refusal) → map (λ g. g.items) l.groups ≡ groups_of (length l.contents) rs →
    AreToldFrom l.encoding (length l.contents) 0 rs (take l.file l.contents) l.lists.items
