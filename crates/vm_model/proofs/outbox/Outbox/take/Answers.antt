use Rattle.std.proofs.Common.{ap, sym, ◌∙◌, drop, slice_get, rules}
use Rattle.vm_model.specs.Outboxes.{list_to}
use Rattle.vm_model.proofs.Outgoing.{lists_changed, below_at, below_past, below_kept}
use Rattle.vm_model.proofs.outbox.Outbox.take.Goals as goal

pub returns-then-to-self-clause-list : goal.returns-then-to-self-clause-list
returns-then-to-self-clause-list c =
    rw (← c.self.view_is)
    (lists_changed c.self.inside.count c.args.to (list_to (λ queue. queue.items) c.self.inside.queues)
    (list_to (λ queue. queue.items) c.take_first.new.queues) (drop 1) (search rules) c.take_first.ensures.list)

pub returns-then-to-self-clause-first : goal.returns-then-to-self-clause-first
returns-then-to-self-clause-first c =
    rw (← c.self.view_is)
    (c.take_first.ensures.first
    ∙ ap (λ l. slice_get l 0) (sym (below_at c.self.inside.count c.args.to (list_to (λ queue. queue.items) c.self.inside.queues)
    (search rules))))

pub returns-else-to-self-clause-first : goal.returns-else-to-self-clause-first
returns-else-to-self-clause-first c =
    rw (← c.self.view_is)
    (sym (ap (λ l. slice_get l 0) (below_past c.self.inside.count c.args.to (list_to (λ queue. queue.items) c.self.inside.queues)
    (search rules))))

pub returns-else-to-self-clause-list : goal.returns-else-to-self-clause-list
returns-else-to-self-clause-list c =
    rw (← c.self.view_is)
    (below_kept c.self.inside.count c.args.to (list_to (λ queue. queue.items) c.self.inside.queues) _ (search rules))
