use Rattle.std.proofs.Common.{◌≡◌, ◌++◌, drop, map}
use Rattle.mg_text.specs.Call.{Name}
use Rattle.ts_tree.specs.View.{method_of}
use Rattle.use_flow.specs.inner.Offering.{by_methods, states_of, IsEven}
use Rattle.use_flow.proofs.offers.Offers.note_methods.Given as goal

abbrev pub invariant-loop-place : goal.invariant-loop-place
invariant-loop-place l =
    IsEven l.self
    × ((m : Name) → states_of l.self m ++ by_methods l.state (map method_of (drop l.place l.methods)) m
    ≡ states_of l.initial.self m ++ by_methods l.state (map method_of l.methods) m)
