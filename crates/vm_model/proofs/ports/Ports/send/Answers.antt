use Rattle.std.proofs.Common.{arith, rules, ◌++◌, ◌∷◌, [], ap}
use Rattle.std.proofs.lemmas.Grind.{common_steps}
use Rattle.vm_model.specs.Messages.{Messages}
use Rattle.vm_model.proofs.Queues.{on_ok, on_err}
use Rattle.vm_model.proofs.Outgoing.{row_changed, row_kept}
use Rattle.vm_model.proofs.ports.Ports.send.Goals as goal

pub returns-then-from-len-clause-ok : goal.returns-then-from-len-clause-ok
returns-then-from-len-clause-ok c =
    rw (← c.self.view_is)
    (on_ok
    (λ h. ap (λ lists. let q : Messages = record { roles = c.self.inside.roles; lists = lists } in q)
    (row_changed c.self.inside.sent.items c.args.from c.args.to c.index_mut-outbox.result.now c.send.new.self
    (λ l. l ++ c.args.message ∷ []) (search rules) c.index_mut-outbox.ensures.value h))
    c.send.result c.send.ensures.ok)

pub returns-then-from-len-clause-err : goal.returns-then-from-len-clause-err
returns-then-from-len-clause-err c =
    rw (← c.self.view_is)
    (on_err
    (λ h. ap (λ lists. let q : Messages = record { roles = c.self.inside.roles; lists = lists } in q)
    (row_kept c.self.inside.sent.items c.args.from c.index_mut-outbox.result.now c.send.new.self
    c.index_mut-outbox.ensures.value h))
    c.send.result c.send.ensures.err)

pub returns-clause-ok : goal.returns-clause-ok
returns-clause-ok c = grind (arith, common_steps)
