use Rattle.std.proofs.Common.{◌≡◌, true, false, refl}
use Rattle.vm_world.proofs.Counting.{waits_counted, ended_counted}
use Rattle.vm_world.proofs.role.count_turn.Goals as goal

pub unreachable-requires : goal.unreachable-requires
unreachable-requires c = let e : true ≡ false = rw c.in-Over.is at c.requires.runs in cc e

pub returns-in-Waits-clause-ok : goal.returns-in-Waits-clause-ok
returns-in-Waits-clause-ok c =
    let done = rw c.in-Waits.is at c.in_ok-step-in-Runs.ensures.ok in
    rw c.in-Runs.is (waits_counted c.args.linked.now c.args.me c.in-Runs.machine.machine c.args.role.now.count c.args.role.now.count c.args.ports.now
    c.step.new.ports c.args.events.now.items c.args.events.now.items c.step.new.machine.machine c.in-Waits._peer done.0 done.1 done.2 refl)

pub returns-in-Ended-clause-ok : goal.returns-in-Ended-clause-ok
returns-in-Ended-clause-ok c =
    let done = rw c.in-Ended.is at c.in_ok-step-in-Runs.ensures.ok in
    rw c.in-Runs.is (ended_counted c.args.linked.now c.args.me c.in-Runs.machine.machine c.args.role.now.count _ c.args.ports.now
    c.step.new.ports c.args.events.now.items c.args.events.now.items c.in-Ended.ending done.0 refl done.2 refl)
