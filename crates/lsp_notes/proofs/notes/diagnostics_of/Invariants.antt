use Rattle.std.proofs.Common.{◌≡◌, take}
use Rattle.lsp_notes.specs.inner.Pairs.{diagnostics}
use Rattle.lsp_notes.proofs.notes.diagnostics_of.Given as goal

abbrev pub invariant-loop-number : goal.invariant-loop-number
invariant-loop-number l = l.list.items ≡ diagnostics (take l.number l.refusals) (take l.number l.ranges)
