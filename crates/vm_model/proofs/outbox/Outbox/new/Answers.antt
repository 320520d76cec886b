use Rattle.std.proofs.Common.{ap, nat_eq}
use Rattle.std.specs.Map.{lookup}
use Rattle.vm_model.specs.Outboxes.{list_in, list_to}
use Rattle.vm_model.proofs.Outgoing.{below_none}
use Rattle.vm_model.proofs.outbox.Outbox.new.Goals as goal

pub returns : goal.returns
returns c =
    below_none c.args.count (list_to (λ queue. queue.items) c.new-queues.result)
    (λ role. ap (λ es. list_in (λ queue. queue.items) (lookup (nat_eq role) es)) c.new-queues.ensures.empty)
