use Rattle.std.proofs.Common.{◌≡◌, ◌++◌, drop, map}
use Rattle.ts_tree.specs.View.{state_of}
use Rattle.jv_rules.specs.Program.{offers_in}
use Rattle.jv_types.specs.inner.Offering.{offers_seen}
use Rattle.jv_types.proofs.protocols.offers_of.Given as goal

abbrev pub invariant-loop-state : goal.invariant-loop-state
invariant-loop-state l = offers_seen l.all.items ++ offers_in (map state_of (drop l.state-index l.states)) ≡ offers_in
    (map state_of l.states)
