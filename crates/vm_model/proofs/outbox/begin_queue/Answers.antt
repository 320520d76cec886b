use Rattle.std.proofs.Common.{ap, ◌∙◌, ◌++◌, ◌∷◌, []}
use Rattle.vm_model.proofs.Outgoing.{queue_changed}
use Rattle.vm_model.proofs.outbox.begin_queue.Goals as goal

pub returns-clause-ok : goal.returns-clause-ok
returns-clause-ok c =
    queue_changed (λ queue. queue.items) c.args.queues.now c.insert.new.self c.args.to c.push_back.new.self _
    c.in_ok-insert.ensures.updates
    (c.in_ok-push_back.ensures.items ∙ ap (λ l. l ++ c.args.message ∷ []) c.new-queue.ensures.items)
