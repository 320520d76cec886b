use Rattle.std.proofs.Common.{◌<◌, ◌-◌, ◌*◌, ◌^◌, ◌+◌, ℕ, length, get_or, set, drop, ap, ◌∙◌, arith}
use Rattle.vm_world.proofs.Cycles.{fewer_than, times, step_down, long_set}
use Rattle.vm_world.proofs.run.count_cycles.Goals as goal

pub overflow_cast-result : goal.overflow_cast-result
overflow_cast-result c =
    let h : length c.args.order.now < 2 ^ 32 =
    fewer_than c.args.cycles (length c.args.order.now) (2 ^ 32) c.requires.some c.requires.fits in
    omega (arith, h)

pub loop-role-preserved : goal.loop-role-preserved
loop-role-preserved c = record {
  long = long_set c.loop-role.ahead (get_or c.args.order.now c.loop-role.role-index 0) c.saturating_sub.result ∙ c.loop-role.invariant.long;
  each = λ r.
      ap (λ (v : ℕ). get_or (set c.loop-role.ahead (get_or c.args.order.now c.loop-role.role-index 0) v) r 0
      - c.args.cycles * times r (drop (c.loop-role.role-index + 1) c.args.order.now)) c.saturating_sub.ensures
      ∙ step_down c.args.order.now c.loop-role.ahead c.loop-role.role-index r c.args.cycles c.loop-role-test.true
      ∙ c.loop-role.invariant.each r;
}
