use Rattle.std.proofs.Common.{sym, ap, ◌∙◌}
use Rattle.vm_events.specs.Seen.{numbered_event}
use Rattle.vm_events.proofs.numbered.short_of.Goals as goal

pub returns-in-Leave : goal.returns-in-Leave
returns-in-Leave c = record {
  there = λ texts messages h. c.left.ensures.there texts messages;
  says = λ texts messages. c.left.ensures.says texts messages ∙ ap (numbered_event texts) (sym c.in-Leave.is);
}
