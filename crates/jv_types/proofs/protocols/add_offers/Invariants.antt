use Rattle.std.proofs.Common.{◌≡◌, ◌++◌, drop, map}
use Rattle.ts_tree.specs.View.{method_of}
use Rattle.jv_types.specs.inner.Offering.{offers_seen}
use Rattle.jv_types.proofs.protocols.add_offers.Given as goal

abbrev pub invariant-loop-method : goal.invariant-loop-method
invariant-loop-method l = offers_seen l.all.items ++ map method_of (drop l.method-index l.methods) ≡ offers_seen l.initial.all.items
    ++ map method_of l.methods
