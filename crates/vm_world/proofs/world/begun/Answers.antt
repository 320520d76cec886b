use Rattle.std.proofs.Common.{subst, ap, ◌∙◌, ◌+◌, length, length-append}
use Rattle.mg_text.specs.Call.{Name}
use Rattle.vm_model.specs.Start.{IsStart}
use Rattle.vm_world.proofs.Begun.{next_begun}
use Rattle.vm_world.proofs.world.begun.Goals as goal

pub loop-main-preserved : goal.loop-main-preserved
loop-main-preserved c =
    let start = subst (λ (n : Name). IsStart c.args.linked.now n c.in_ok-machine.machine.machine)
    c.as_str.ensures c.in_ok-machine.ensures in (
      ap length c.in_ok-push.ensures.items ∙ length-append c.loop-main.roles.items _ ∙ ap (λ n. n + 1) c.loop-main.invariant.0,
      next_begun c.args.linked.now c.args.mains.now c.loop-main.roles.items c.push.new.self.items
          c.loop-main.main-index
          c.main-item.result c.in_ok-machine.machine c.loop-main-test.true c.main-item.is c.loop-main.invariant.1 start
          c.in_ok-push.ensures.items,
    )
