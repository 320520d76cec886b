use Rattle.std.proofs.Common.{◌≡◌, ◌≤◌, ◌+◌, ◌-◌, ◌^◌, Some, map, length}
use Rattle.std.specs.Prelude.{slice_get}
use Rattle.jv_core.specs.Tree as Core
use Rattle.jv_core.specs.View.{class_of, method_of}
use Rattle.jv_resolve.proofs.Bounding.{all_more, all_done}
use Rattle.jv_resolve.proofs.bounds.bound_methods.Goals as goal

pub loop-method-init : goal.loop-method-init
loop-method-init c = λ h. h

pub loop-method-preserved : goal.loop-method-preserved
loop-method-preserved c = all_more (λ m. (k : Core.Class) → slice_get (map class_of c.args.classes.now) m.class ≡ Some k →
    length m.slots + length k.fields ≤ 2 ^ 32 - 1) method_of c.args.methods.now c.loop-method.method-index c.loop-method.invariant
    c.method-item.result c.loop-method-test.true c.method-item.is c.in_ok-bound_method.ensures

pub returns : goal.returns
returns c = all_done (λ m. (k : Core.Class) → slice_get (map class_of c.args.classes.now) m.class ≡ Some k →
    length m.slots + length k.fields ≤ 2 ^ 32 - 1) method_of c.args.methods.now c.loop-method.method-index c.loop-method.invariant
    c.loop-method-test.false
