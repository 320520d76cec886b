use Rattle.std.proofs.Common.{ap, ◌∙◌, drop, slice_get, rules}
use Rattle.vm_model.specs.Outboxes.{list_in}
use Rattle.vm_model.proofs.Queues.{first_given}
use Rattle.vm_model.proofs.Outgoing.{queue_changed}
use Rattle.vm_model.proofs.outbox.take_first.Goals as goal

pub returns-in-Some-clause-list : goal.returns-in-Some-clause-list
returns-in-Some-clause-list c =
    queue_changed (λ queue. queue.items) c.args.queues.now (c.get_mut.follows.lender c.pop_front.new.self) c.args.to
    c.pop_front.new.self _ ((c.get_mut.follows.holds c.pop_front.new.self).3 (search rules))
    (c.pop_front.ensures.rest ∙ ap (drop 1) (ap (list_in (λ queue. queue.items)) c.in-Some.ensures.value))

pub returns-in-Some-clause-first : goal.returns-in-Some-clause-first
returns-in-Some-clause-first c =
    first_given _ _ c.pop_front.result c.pop_front.ensures.items c.pop_front.ensures.rest
    ∙ ap (λ l. slice_get l 0) (ap (list_in (λ queue. queue.items)) c.in-Some.ensures.value)
