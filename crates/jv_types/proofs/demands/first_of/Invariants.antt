use Rattle.std.proofs.Common.{◌≡◌, drop, map}
use Rattle.jv_tree.specs.View.{method_of}
use Rattle.jv_types.specs.inner.Declaring.{broken_by_name}
use Rattle.jv_rules.specs.inner.Deciding.{first_by}
use Rattle.jv_types.proofs.demands.first_of.Given as goal

abbrev pub invariant-loop-item : goal.invariant-loop-item
invariant-loop-item l =
    first_by (broken_by_name l.met) (map method_of (drop l.item-index l.methods)) ≡ first_by (broken_by_name l.met)
    (map method_of l.methods)
