use Rattle.std.proofs.Common.{◌≡◌, ◌-◌, ◌++◌, ap, ◌∙◌, arith}
use Rattle.jv_core.specs.Numbering.{numbers_from}
use Rattle.use_flow.proofs.Flowing.{number_next, number_last}
use Rattle.use_flow.proofs.followed.numbers.Goals as goal

pub loop-slot-init : goal.loop-slot-init
loop-slot-init c = ap (λ ns. ns ++ numbers_from 0 (c.args.count - 0)) c.new-numbers.ensures.items

pub loop-slot-preserved : goal.loop-slot-preserved
loop-slot-preserved c =
    number_next c.loop-slot.slot c.args.count c.loop-slot.numbers.items c.push.new.self.items _ (omega arith) c.in_ok-push.ensures.items
    c.loop-slot.invariant

pub returns : goal.returns
returns c =
    let whole : c.args.count - 0 ≡ c.args.count = omega arith in
    number_last c.loop-slot.slot c.args.count c.loop-slot.numbers.items _ (omega arith) c.loop-slot.invariant ∙ ap (numbers_from 0) whole
