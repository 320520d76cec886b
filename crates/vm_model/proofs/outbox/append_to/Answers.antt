use Rattle.std.proofs.Common.{ap, ◌∙◌, ◌++◌, ◌∷◌, [], rules}
use Rattle.vm_model.specs.Outboxes.{list_in}
use Rattle.vm_model.proofs.Outgoing.{queue_changed, queue_kept}
use Rattle.vm_model.proofs.outbox.append_to.Goals as goal

pub returns-in-Ok-clause-ok : goal.returns-in-Ok-clause-ok
returns-in-Ok-clause-ok c =
    queue_changed (λ queue. queue.items) c.args.queues.now (c.get_mut.follows.lender c.push_back.new.self) c.args.to
    c.push_back.new.self _ ((c.get_mut.follows.holds c.push_back.new.self).3 (search rules))
    (c.in-Ok.ensures.items ∙ ap (λ l. l ++ c.args.message ∷ []) (ap (list_in (λ queue. queue.items)) c.in-Some.ensures.value))

pub returns-in-Err-clause-err : goal.returns-in-Err-clause-err
returns-in-Err-clause-err c =
    queue_kept (λ queue. queue.items) c.args.queues.now (c.get_mut.follows.lender c.push_back.new.self) c.args.to
    c.push_back.new.self ((c.get_mut.follows.holds c.push_back.new.self).3 (search rules))
    (c.in-Err.ensures.items ∙ ap (list_in (λ queue. queue.items)) c.in-Some.ensures.value)
