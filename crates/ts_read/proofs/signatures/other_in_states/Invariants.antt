use Rattle.std.proofs.Common.{◌≡◌, drop, map}
use Rattle.ts_read.specs.inner.Finding.{first_some}
use Rattle.ts_read.specs.inner.Signing.{sig_of, other_in_state}
use Rattle.ts_read.proofs.signatures.other_in_states.Given as goal

abbrev pub invariant-loop-item : goal.invariant-loop-item
invariant-loop-item l = first_some
    (map (other_in_state (record { names = l.names; sigs = map sig_of l.signatures })) (drop l.item-index l.states)) ≡ first_some
    (map (other_in_state (record { names = l.names; sigs = map sig_of l.signatures })) l.states)
