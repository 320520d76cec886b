use Rattle.std.proofs.Common.{ap, sym, ◌∙◌, slice_get, rules}
use Rattle.vm_model.specs.Outboxes.{list_in, list_to}
use Rattle.vm_model.proofs.Outgoing.{below_at, below_past, front_given}
use Rattle.vm_model.proofs.outbox.Outbox.first.Goals as goal

pub returns-then-to-self : goal.returns-then-to-self
returns-then-to-self c =
    rw (← c.self.view_is)
    (sym (ap (λ l. slice_get l 0) (below_past c.self.inside.count c.args.to (list_to (λ queue. queue.items) c.self.inside.queues)
    (search rules))))

pub returns-in-None : goal.returns-in-None
returns-in-None c =
    rw (← c.self.view_is)
    (sym (ap (λ l. slice_get l 0) (below_at c.self.inside.count c.args.to (list_to (λ queue. queue.items) c.self.inside.queues)
    (search rules) ∙ sym (ap (list_in (λ queue. queue.items)) c.in-None.ensures.value))))

pub returns-in-Some : goal.returns-in-Some
returns-in-Some c =
    rw (← c.self.view_is)
    (front_given c.in-Some.queue.now.items c.front.result c.front.ensures.item
    ∙ ap (λ l. slice_get l 0) (ap (list_in (λ queue. queue.items)) c.in-Some.ensures.value
    ∙ sym (below_at c.self.inside.count c.args.to (list_to (λ queue. queue.items) c.self.inside.queues) (search rules))))
