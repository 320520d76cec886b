use Rattle.std.proofs.Common.{◌≡◌, ◌-◌, drop, length, map}
use Rattle.ts_tree.specs.Calls.{offered_in}
use Rattle.ts_tree.specs.View.{method_of}
use Rattle.ts_refine.proofs.places.place_along.Given as goal

abbrev pub invariant-loop-place : goal.invariant-loop-place
invariant-loop-place l = offered_in (map method_of (drop l.place l.methods)) l.name ≡ offered_in (map method_of l.methods) l.name

abbrev pub decreases-loop-place : goal.decreases-loop-place
decreases-loop-place l = length l.methods - l.place
