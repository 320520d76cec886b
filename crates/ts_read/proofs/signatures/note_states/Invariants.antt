use Rattle.std.proofs.Common.{◌≡◌, drop, map}
use Rattle.ts_read.specs.inner.Signing.{sig_of, with_states}
use Rattle.ts_read.proofs.signatures.note_states.Given as goal

abbrev pub invariant-loop-item : goal.invariant-loop-item
invariant-loop-item l = with_states (record { names = l.names; sigs = map sig_of l.signatures.items })
    (drop l.item-index l.states) ≡ with_states (record { names = l.initial.names; sigs = map sig_of l.initial.signatures.items }) l.states
