-- By `grind` at once, since a search finds nothing here.
use Rattle.std.proofs.Common.{arith}
use Rattle.lsp_defined.proofs.Collecting.{firsts}
use Rattle.lsp_defined.proofs.actions.first_message.Goals as goal

pub returns-in-Choice : goal.returns-in-Choice
returns-in-Choice c = grind (arith, firsts)

pub returns-in-Continue : goal.returns-in-Continue
returns-in-Continue c = grind (arith, firsts)

pub returns-in-Do : goal.returns-in-Do
returns-in-Do c = grind (arith, firsts)

pub returns-in-Message : goal.returns-in-Message
returns-in-Message c = grind (arith, firsts)

pub returns-in-None : goal.returns-in-None
returns-in-None c = grind (arith, firsts)

pub returns-in-Rec : goal.returns-in-Rec
returns-in-Rec c = grind (arith, firsts)
