use Rattle.std.proofs.Common.{arith, rules, ◌∙◌, ◌≤◌, ap, sym, drop, slice_get, length}
use Rattle.std.proofs.lemmas.Grind.{common_steps}
use Rattle.std.proofs.lemmas.Option.{slice_get_past}
use Rattle.vm_model.specs.Messages.{Messages, or_nothing}
use Rattle.vm_model.proofs.Outgoing.{row_changed, row_at}
use Rattle.vm_model.proofs.ports.Ports.take.Goals as goal

pub returns-then-from-len-clause-list : goal.returns-then-from-len-clause-list
returns-then-from-len-clause-list c =
    rw (← c.self.view_is)
    (ap (λ lists. let q : Messages = record { roles = c.self.inside.roles; lists = lists } in q)
    (row_changed c.self.inside.sent.items c.args.from c.args.to c.index_mut-outbox.result.now c.take.new.self (drop 1)
    (search rules) c.index_mut-outbox.ensures.value c.take.ensures.list))

pub returns-then-from-len-clause-first : goal.returns-then-from-len-clause-first
returns-then-from-len-clause-first c =
    rw (← c.self.view_is)
    (c.take.ensures.first
    ∙ ap (λ l. slice_get (or_nothing (slice_get l c.args.to)) 0)
    (sym (row_at c.self.inside.sent.items c.args.from c.index_mut-outbox.result.now (search rules) c.index_mut-outbox.ensures.value)))

pub returns-else-from-len-clause-first : goal.returns-else-from-len-clause-first
returns-else-from-len-clause-first c =
    let past : length c.self.inside.sent.items ≤ c.args.from = search rules in
    rw (← c.self.view_is)
    (sym (ap (λ o. slice_get (or_nothing (slice_get (or_nothing o) c.args.to)) 0) (slice_get_past c.self.inside.sent.items c.args.from past)))

pub returns-else-from-len-clause-list : goal.returns-else-from-len-clause-list
returns-else-from-len-clause-list c = grind (arith, common_steps)
