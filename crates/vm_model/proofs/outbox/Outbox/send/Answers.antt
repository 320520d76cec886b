use Rattle.std.proofs.Common.{◌++◌, ◌∷◌, [], rules}
use Rattle.vm_model.specs.Outboxes.{list_to}
use Rattle.vm_model.proofs.Queues.{on_ok, on_err}
use Rattle.vm_model.proofs.Outgoing.{lists_changed, below_same, below_kept}
use Rattle.vm_model.proofs.outbox.Outbox.send.Goals as goal

pub returns-then-to-self-clause-ok : goal.returns-then-to-self-clause-ok
returns-then-to-self-clause-ok c =
    rw (← c.self.view_is)
    (on_ok
    (λ h. lists_changed c.self.inside.count c.args.to (list_to (λ queue. queue.items) c.self.inside.queues)
    (list_to (λ queue. queue.items) c.append_to.new.queues) (λ l. l ++ c.args.message ∷ []) (search rules) h)
    c.append_to.result c.append_to.ensures.ok)

pub returns-then-to-self-clause-err : goal.returns-then-to-self-clause-err
returns-then-to-self-clause-err c =
    rw (← c.self.view_is)
    (on_err
    (λ h. below_same c.self.inside.count (list_to (λ queue. queue.items) c.self.inside.queues)
    (list_to (λ queue. queue.items) c.append_to.new.queues) h)
    c.append_to.result c.append_to.ensures.err)

pub returns-clause-ok : goal.returns-clause-ok
returns-clause-ok c =
    rw (← c.self.view_is)
    (below_kept c.self.inside.count c.args.to (list_to (λ queue. queue.items) c.self.inside.queues) _ (search rules))
