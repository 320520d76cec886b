use Rattle.std.proofs.Common.{◌≡◌, drop, map}
use Rattle.ts_tree.specs.Calls.{offered_in}
use Rattle.ts_tree.specs.View.{method_of}
use Rattle.ts_tree.proofs.typestate.Typestate.next.Given as goal

abbrev pub invariant-loop-offered : goal.invariant-loop-offered
invariant-loop-offered l = offered_in (map method_of (drop l.offered-index l.offered-items)) l.method ≡ offered_in
    (map method_of l.offered-items) l.method
