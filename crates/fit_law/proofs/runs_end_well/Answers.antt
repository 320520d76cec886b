use Rattle.fit_law.proofs.Play as play
use Rattle.fit_law.proofs.runs_end_well.Goals as goal

pub returns : goal.returns
returns c = play.runs_end_well
