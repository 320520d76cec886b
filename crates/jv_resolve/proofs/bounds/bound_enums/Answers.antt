use Rattle.std.proofs.Common.{◌≤◌, ◌^◌, length}
use Rattle.jv_core.specs.View.{enum_of}
use Rattle.jv_resolve.proofs.Bounding.{all_more, all_done}
use Rattle.jv_resolve.proofs.bounds.bound_enums.Goals as goal

pub loop-of-init : goal.loop-of-init
loop-of-init c = λ h. h

pub loop-of-preserved : goal.loop-of-preserved
loop-of-preserved c = all_more (λ e. length e.constants ≤ 2 ^ 31) enum_of c.args.enums.now c.loop-of.of-index c.loop-of.invariant
    c.of-item.result c.loop-of-test.true c.of-item.is c.in_ok-bound_enum.ensures

pub returns : goal.returns
returns c = all_done (λ e. length e.constants ≤ 2 ^ 31) enum_of c.args.enums.now c.loop-of.of-index c.loop-of.invariant c.loop-of-test.false
