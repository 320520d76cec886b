use Rattle.fit_judge.proofs.Adder.{fits}
use Rattle.fit_judge.proofs.adder_fits.Goals as goal

pub returns : goal.returns
returns c = fits
