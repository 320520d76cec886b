use Rattle.std.proofs.Common.{◌≡◌, ◌++◌, drop, map}
use Rattle.mg_text.specs.Call.{Name}
use Rattle.ts_tree.specs.View.{state_of}
use Rattle.use_flow.specs.inner.Offering.{by_states, states_of, IsEven}
use Rattle.use_flow.proofs.offers.offers_of.Given as goal

abbrev pub invariant-loop-state : goal.invariant-loop-state
invariant-loop-state l =
    IsEven l.offers
    × ((m : Name) → states_of l.offers m ++ by_states l.state (map state_of (drop l.state l.states)) m ≡ by_states 0 (map state_of l.states) m)
