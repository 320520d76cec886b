use Rattle.std.proofs.Common.{◌≡◌, drop, map}
use Rattle.ts_read.specs.inner.Signing.{sig_of, with_entries}
use Rattle.ts_read.proofs.signatures.note_entries.Given as goal

abbrev pub invariant-loop-item : goal.invariant-loop-item
invariant-loop-item l = with_entries (record { names = l.names; sigs = map sig_of l.signatures.items })
    (drop l.item-index l.entries) ≡ with_entries
    (record { names = l.initial.names; sigs = map sig_of l.initial.signatures.items }) l.entries
