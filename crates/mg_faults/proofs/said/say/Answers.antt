use Rattle.std.proofs.Common.{◌∷◌, [], ◌++◌, refl, ap, ◌∙◌}
use Rattle.mg_refusal.specs.Refusals.{Refusal}
use Rattle.mg_faults.proofs.Saying.{newly_said, said_again}
use Rattle.mg_faults.proofs.said.say.Goals as goal

pub returns-then-not-branch : goal.returns-then-not-branch
returns-then-not-branch c = λ seen was.
    said_again c.args.core.now seen c.args.lines.now.keys c.insert.new.self.keys c.args.said.now.items _ c.args.demand.now c.in_ok-key.key _ was
    (c.in_ok-key.ensures c.args.core.now c.in_ok-refusal.ensures) c.in_ok-insert.ensures.added c.in_ok-insert.ensures.keys
    c.if-not-branch.true refl

pub returns : goal.returns
returns c = λ seen was.
    newly_said c.args.core.now seen c.args.lines.now.keys c.insert.new.self.keys c.args.said.now.items c.push.new.self.items
    c.args.demand.now c.in_ok-key.key _ was (c.in_ok-key.ensures c.args.core.now c.in_ok-refusal.ensures) c.in_ok-insert.ensures.added
    c.in_ok-insert.ensures.keys c.if-not-branch.false
    (c.in_ok-push.ensures.items ∙ ap (λ (r : Refusal). c.args.said.now.items ++ r ∷ []) c.in_ok-refusal.ensures)
