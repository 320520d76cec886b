use Rattle.std.proofs.Common.{◌≡◌, drop, map}
use Rattle.ts_read.specs.inner.Finding.{first_some, at_method}
use Rattle.ts_read.specs.inner.Signing.{sig_of, other_method}
use Rattle.ts_read.proofs.signatures.other_in_entries.Given as goal

abbrev pub invariant-loop-item : goal.invariant-loop-item
invariant-loop-item l = first_some
    (map (at_method (other_method (record { names = l.names; sigs = map sig_of l.signatures }))) (drop l.item-index l.entries)) ≡ first_some
    (map (at_method (other_method (record { names = l.names; sigs = map sig_of l.signatures }))) l.entries)
