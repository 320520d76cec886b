use Rattle.fit_law.proofs.Play as play
use Rattle.fit_law.proofs.none_gets_stuck_in.Goals as goal

pub returns : goal.returns
returns c = play.none_gets_stuck_in
