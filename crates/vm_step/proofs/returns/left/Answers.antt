use Rattle.std.proofs.Common.{Some, ap}
use Rattle.mg_text.specs.declared.event.Event.TheVariants as seen
use Rattle.vm_step.proofs.returns.left.Goals as goal

pub returns-in-Some : goal.returns-in-Some
returns-in-Some c = λ texts. rw c.in-Some.is (ap (λ a. Some (seen.Leave c.in-Some.object a)) (c.answer_of.ensures texts))
