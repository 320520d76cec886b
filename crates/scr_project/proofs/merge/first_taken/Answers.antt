use Rattle.std.proofs.Common.{rules}
use Rattle.std.proofs.lemmas.Grind.{common_steps}
use Rattle.scr_project.proofs.Merging.{taken-Message, taken-Choice, taken-Rec, taken-Continue, taken-Do}
use Rattle.scr_project.proofs.merge.first_taken.Goals as goal

pub returns-in-To : goal.returns-in-To
returns-in-To c = search (rules, common_steps, taken-Message)

pub returns-in-From : goal.returns-in-From
returns-in-From c = search (rules, common_steps, taken-Message)

pub returns-in-Choice : goal.returns-in-Choice
returns-in-Choice c = search (rules, common_steps, taken-Choice)

pub returns-in-Rec : goal.returns-in-Rec
returns-in-Rec c = search (rules, common_steps, taken-Rec)

pub returns-in-Continue : goal.returns-in-Continue
returns-in-Continue c = search (rules, common_steps, taken-Continue)

pub returns-in-Do : goal.returns-in-Do
returns-in-Do c = search (rules, common_steps, taken-Do)
