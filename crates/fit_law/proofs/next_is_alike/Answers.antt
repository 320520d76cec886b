use Rattle.fit_law.proofs.Next as next
use Rattle.fit_law.proofs.next_is_alike.Goals as goal

pub returns : goal.returns
returns c = next.next_is_alike
